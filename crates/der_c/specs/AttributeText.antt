-- The attributes of a name as text (RFC 4514 2.3, 2.4).
use Rattle.std.specs.Prelude.{◌≡◌, ◌⊎◌, ℕ, ◌+◌, ◌/◌, ◌%◌, ◌==◌, nat_eq, nat_lt, Bool, true, false, ◌&&◌, ◌||◌, if◌then◌else◌, List, [], ◌∷◌, ◌++◌, Option, Some, None, codes}
use Rattle.std.specs.List.{flat_map, list_all, list_any}
use Rattle.std.specs.Borrow.{Bor}
use Rattle.std.specs.Cmp.Lexicographic.{pointwise}
use Rattle.der_tlv.specs.HeaderOctets.{tlv}
use Rattle.der_tlv.specs.declared.tag.Tag.{Tag}
use Rattle.der_tlv.specs.declared.tag.Tag.TheVariants as tags
use Rattle.der_c.specs.Dotted.{HasNoText, HasText}

-- ---- characters

-- a digit of hexadecimal, with capital letters
abbrev pub hex_digit : ℕ → ℕ
hex_digit d = if nat_lt d 10 then 48 + d else 55 + d

-- an octet as two digits
abbrev pub hex_pair : ℕ → List ℕ
hex_pair octet = hex_digit (octet / 16) ∷ hex_digit (octet % 16) ∷ []

-- '#' and the octets in hexadecimal (2.4)
abbrev pub hexadecimal : List ℕ → List ℕ
hexadecimal octets = 35 ∷ flat_map hex_pair octets

-- the control characters of ASCII
abbrev pub is_control : ℕ → Bool
is_control x = nat_lt x 32 || (x == 127)

-- '"', '+', ',', ';', '<', '>' and '\', which have a backslash everywhere (2.4)
abbrev pub is_special : ℕ → Bool
is_special x = list_any (λ s. x == s) (codes "\"+,;<>\\")

-- "a space or number sign occurring at the beginning of the string", "a space character occurring at the end of the string"
abbrev pub has_backslash : Bool → Bool → ℕ → Bool
has_backslash is_first is_last x = is_special x || ((is_first && (x == 35)) || ((is_first || is_last) && (x == 32)))

-- an octet of a string: a control character as a backslash and two digits, another one as itself, after a backslash if it has one
abbrev pub escaped : Bool → Bool → ℕ → List ℕ
escaped is_first is_last x = if is_control x then 92 ∷ hex_pair x else (if has_backslash is_first is_last x then 92 ∷ x ∷ [] else x ∷ [])

abbrev pub none_left : List ℕ → Bool
none_left [] = true
none_left (x ∷ others) = false

-- octets of a string, from the first on or after others
abbrev pub escaped_octets : Bool → List ℕ → List ℕ
escaped_octets is_first [] = []
escaped_octets is_first (x ∷ others) = escaped is_first (none_left others) x ++ escaped_octets false others

-- ---- values

-- a value is a string whose octets are UTF-8: a UTF8String, or a string of another type with octets of ASCII alone
abbrev pub is_string : Tag → List ℕ → Bool
is_string tags.Utf8String octets = true
is_string tags.NumericString octets = list_all (λ x. nat_lt x 128) octets
is_string tags.PrintableString octets = list_all (λ x. nat_lt x 128) octets
is_string tags.Ia5String octets = list_all (λ x. nat_lt x 128) octets
is_string tags.VisibleString octets = list_all (λ x. nat_lt x 128) octets
is_string _ octets = false

-- a string is written as its characters, and any other value as its encoding in hexadecimal (2.4)
abbrev pub value_text : Tag → List ℕ → List ℕ
value_text tag contents = if is_string tag contents then escaped_octets true contents else hexadecimal (tlv tag contents)

-- ---- types

-- the short names of attribute types (section 3), by the contents octets of their object identifiers, 2.5.4.3 to 2.5.4.11
abbrev pub x520_names : List (List ℕ × List ℕ)
x520_names =
    (85 ∷ 4 ∷ 3 ∷ [], codes "CN") ∷ (85 ∷ 4 ∷ 6 ∷ [], codes "C") ∷ (85 ∷ 4 ∷ 7 ∷ [], codes "L") ∷ (85 ∷ 4 ∷ 8 ∷ [], codes "ST")
    ∷ (85 ∷ 4 ∷ 9 ∷ [], codes "STREET") ∷ (85 ∷ 4 ∷ 10 ∷ [], codes "O") ∷ (85 ∷ 4 ∷ 11 ∷ [], codes "OU") ∷ []

-- 0.9.2342.19200300.100.1.25
abbrev pub domain_component : List ℕ × List ℕ
domain_component = (9 ∷ 146 ∷ 38 ∷ 137 ∷ 147 ∷ 242 ∷ 44 ∷ 100 ∷ 1 ∷ 25 ∷ [], codes "DC")

-- 0.9.2342.19200300.100.1.1
abbrev pub user_id : List ℕ × List ℕ
user_id = (9 ∷ 146 ∷ 38 ∷ 137 ∷ 147 ∷ 242 ∷ 44 ∷ 100 ∷ 1 ∷ 1 ∷ [], codes "UID")

abbrev pub short_names : List (List ℕ × List ℕ)
short_names = domain_component ∷ user_id ∷ x520_names

abbrev pub name_among : List (List ℕ × List ℕ) → List ℕ → Option (List ℕ)
name_among [] identifier = None
name_among (named ∷ others) identifier = if pointwise nat_eq identifier named.0 then Some named.1 else name_among others identifier

-- the text of a type with no short name: its object identifier; nothing, if that has an arc of more than 64 bits
abbrev pub IsTypeText : List ℕ → List ℕ → Type 0
IsTypeText identifier text = HasText identifier text ⊎ (HasNoText identifier × (text ≡ []))

-- "<type> '=' <value>"; the value of a type with no short name is written in hexadecimal (2.3, 2.4)
abbrev pub IsTextOf : Option (List ℕ) → List ℕ → Tag → List ℕ → List ℕ → Type 0
IsTextOf (Some name) identifier tag contents text = text ≡ name ++ (61 ∷ value_text tag contents)
IsTextOf None identifier tag contents text = (name : List ℕ) × IsTypeText identifier name × (text ≡ name ++ (61 ∷ hexadecimal (tlv tag contents)))

-- the text of an attribute with this type, and with a value of this tag and these contents octets
abbrev pub IsAttributeText : List ℕ → Tag → List ℕ → List ℕ → Type 0
IsAttributeText identifier = IsTextOf (name_among short_names identifier) identifier

-- the short name of a type in a table, if it has one
abbrev pub NamesType : List (List ℕ × List ℕ) → List ℕ → Option (Bor (List ℕ)) → Type 0
NamesType table identifier None = name_among table identifier ≡ None
NamesType table identifier (Some name) = name_among table identifier ≡ Some name.now

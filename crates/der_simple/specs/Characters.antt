-- The characters of NumericString and VisibleString, which have one octet each (X.680 41, X.690 8.23).
use Rattle.std.specs.Prelude.{◌≡◌, ◌⊎◌, ℕ, ◌<◌, ◌≤◌, ◌^◌, ◌==◌, ◌||◌, Bool, true, false, if◌then◌else◌, List, length, Result, Ok, Err}
use Rattle.std.specs.List.{list_all}
use Rattle.der_tlv.specs.declared.error.ErrorKind.TheVariants.{Value}
use Rattle.der_tlv.specs.declared.error.Error.{Error}
use Rattle.der_tlv.specs.declared.tag.Tag.{Tag}
use Rattle.der_tlv.specs.declared.tag.Tag.TheVariants.{NumericString, VisibleString}
use Rattle.der_elem.specs.Parsing.{ContentsParse}
use Rattle.der_ascii.specs.Characters.{within}

-- NumericString: digits and space (X.680 41.2, table 9)
abbrev pub is_numeric : ℕ → Bool
is_numeric octet = within 48 57 octet || octet == 32

-- VisibleString: the graphic characters of ISO 646 and space, 20 to 7E (X.680 table 8, registrations 6 and SPACE)
abbrev pub is_visible : ℕ → Bool
is_visible octet = within 32 126 octet

-- whether an octet is a character of the type with a universal number: 18 is NumericString, and any other is VisibleString
abbrev pub has_character : ℕ → ℕ → Bool
has_character number octet = if number == 18 then is_numeric octet else is_visible octet

-- all octets are characters of the type
abbrev pub are_simple_characters : ℕ → List ℕ → Bool
are_simple_characters number octets = list_all (has_character number) octets

-- the tag of a universal number: 18 is NumericString, and any other is VisibleString (X.680 8.4)
abbrev pub string_tag : ℕ → Tag
string_tag number = if number == 18 then NumericString else VisibleString

-- characters are read unchanged; other octets are refused (13)
abbrev pub parse_simple_string : ℕ → ContentsParse
parse_simple_string number rules p octets = if are_simple_characters number octets then Ok octets else Err (Value (string_tag number))

-- a string that keeps these octets, or an error (13) if one is no character, or if they are more than a length can count
abbrev pub KeepsString : {T : Type 0} → (T → List ℕ) → ℕ → List ℕ → Result T Error → Type 0
KeepsString contents number octets (Ok v) = (contents v ≡ octets) × (are_simple_characters number octets ≡ true) × (length octets < 2 ^ 32)
KeepsString contents number octets (Err e) = (e.kind ≡ Value (string_tag number)) × ((are_simple_characters number octets ≡ false) ⊎ (2 ^ 32 ≤ length octets))

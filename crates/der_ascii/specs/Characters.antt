-- The characters of the restricted character string types whose characters have one octet each (X.680 41, X.690 8.23).
use Rattle.std.specs.Prelude.{◌≡◌, ◌⊎◌, ℕ, ◌<◌, ◌≤◌, ◌^◌, ◌==◌, ◌||◌, ◌&&◌, nat_lt, nat_le, Bool, true, false, if◌then◌else◌, List, length, Result, Ok, Err}
use Rattle.std.specs.List.{list_all}
use Rattle.der_tlv.specs.declared.error.ErrorKind.TheVariants.{Value, Memory}
use Rattle.der_tlv.specs.declared.error.Error.{Error}
use Rattle.der_tlv.specs.declared.tag.Tag.{Tag}
use Rattle.der_tlv.specs.declared.tag.Tag.TheVariants.{PrintableString, TeletexString, VideotexString, Ia5String}
use Rattle.der_elem.specs.Parsing.{ContentsParse}

-- an octet from one to another, both included
abbrev pub within : ℕ → ℕ → ℕ → Bool
within first last octet = nat_le first octet && nat_le octet last

-- PrintableString: letters, digits, space and ' ( ) + , - . / : = ? (X.680 41.4, table 10)
unfoldable pub is_printable : ℕ → Bool
is_printable octet =
    within 65 90 octet || within 97 122 octet || within 48 57 octet || octet == 32 || within 39 41 octet || within 43 47 octet || octet == 58 || octet == 61 || octet == 63

-- whether an octet is a character of the type with a universal number: 19 is PrintableString; the characters of any other are 00 to 7F
abbrev pub has_character : ℕ → ℕ → Bool
has_character number octet = if number == 19 then is_printable octet else nat_lt octet 128

-- all octets are characters of the type
abbrev pub are_characters : ℕ → List ℕ → Bool
are_characters number octets = list_all (has_character number) octets

-- the tag of a universal number: 19, 20, 21, and any other is IA5String (X.680 8.4)
abbrev pub string_tag : ℕ → Tag
string_tag number =
    if number == 19 then PrintableString
    else (if number == 20 then TeletexString
    else (if number == 21 then VideotexString
    else Ia5String))

-- characters are read unchanged; other octets are refused (13)
abbrev pub parse_string : ℕ → ContentsParse
parse_string number rules p octets = if are_characters number octets then Ok octets else Err (Value (string_tag number))

-- a string that keeps these octets, or an error (13) if one is no character, or if they are more than a length can count
abbrev pub KeepsString : {T : Type 0} → (T → List ℕ) → ℕ → List ℕ → Result T Error → Type 0
KeepsString contents number octets (Ok v) = (contents v ≡ octets) × (are_characters number octets ≡ true) × (length octets < 2 ^ 32)
KeepsString contents number octets (Err e) = (e.kind ≡ Value (string_tag number)) × ((are_characters number octets ≡ false) ⊎ (2 ^ 32 ≤ length octets))

-- an owned string that keeps these octets, or one of these errors, or (1) if memory ran out for octets that have no error
abbrev pub KeepsOwnedString : {T : Type 0} → (T → List ℕ) → ℕ → List ℕ → Result T Error → Type 0
KeepsOwnedString contents number octets (Ok v) = (contents v ≡ octets) × (are_characters number octets ≡ true) × (length octets < 2 ^ 32)
KeepsOwnedString contents number octets (Err e) =
    ((e.kind ≡ Memory) × (are_characters number octets ≡ true) × (length octets < 2 ^ 32)) ⊎ ((e.kind ≡ Value (string_tag number)) × ((are_characters number octets ≡ false) ⊎ (2 ^ 32 ≤ length octets)))

-- The texts of the attributes of a name (RFC 5280 4.1.2.4, 4.1.2.6, appendices A.1 and B): an attribute is a type (06) and a value, whose identifier says which string it is. A value that is no string of A.1 has neither a size nor characters.
use Rattle.std.specs.Prelude.{ℕ, ◌/◌, ◌==◌, nat_le, List, [], ◌∷◌, length, Bool, false, true, not, ◌&&◌, ◌||◌, if◌then◌else◌, Option, Some, None}
use Rattle.std.specs.List.{list_all}
use Rattle.der_verify.specs.declared.rfc5280.texts.TextRule.{TextRule}
use Rattle.der_verify.specs.declared.rfc5280.texts.TextRule.TheVariants.{Characters, Size, StringType}
use Rattle.der_verify.specs.Alternatives.{is_letter_or_digit}
use Rattle.der_verify.specs.Bounds.{character_count, domain_component, email_address, is, is_id_at}
use Rattle.der_verify.specs.Elements.{front_of, one_within}
use Rattle.der_verify.specs.Sizes.{may_be}

-- the number of characters: of a UTF8String (12), a BMPString (30), a PrintableString (19), a TeletexString (20) or an IA5String (22)
abbrev pub count_of : ℕ → List ℕ → Option ℕ
count_of string text =
    if string == 12 then Some (character_count text)
    else (if string == 30 then Some (length text / 2)
    else (if string == 19 || (string == 20 || string == 22) then Some (length text)
    else None))

-- the five of DirectoryString, with UniversalString (28)
abbrev pub is_directory_string : ℕ → Bool
is_directory_string string = string == 12 || (string == 19 || (string == 20 || (string == 28 || string == 30)))

-- A.1: serialNumber, countryName and dnQualifier are PrintableStrings, domainComponent and emailAddress IA5Strings, the others of A.1 DirectoryStrings; other types are not judged
abbrev pub may_be_string : List ℕ → ℕ → Bool
may_be_string type string =
    if is_id_at (5 ∷ 6 ∷ 46 ∷ []) type then string == 19
    else (if is domain_component type || is email_address type then string == 22
    else (if is_id_at (3 ∷ 4 ∷ 7 ∷ 8 ∷ 10 ∷ 11 ∷ 12 ∷ 41 ∷ 42 ∷ 43 ∷ 44 ∷ 65 ∷ []) type then is_directory_string string
    else true))

-- the types of A.1
abbrev pub is_known : List ℕ → Bool
is_known type = is_id_at (3 ∷ 4 ∷ 5 ∷ 6 ∷ 7 ∷ 8 ∷ 10 ∷ 11 ∷ 12 ∷ 41 ∷ 42 ∷ 43 ∷ 44 ∷ 46 ∷ 65 ∷ []) type || (is domain_component type || is email_address type)

-- B: letters, digits, space, and ' ( ) + , - . / : = ?
abbrev pub is_printable : ℕ → Bool
is_printable x = is_letter_or_digit x || (x == 32 || ((nat_le 39 x && nat_le x 41) || ((nat_le 43 x && nat_le x 47) || (x == 58 || (x == 61 || x == 63)))))

-- whether the text of an attribute of this type breaks a rule
abbrev pub breaks_text : TextRule → List ℕ → ℕ → List ℕ → Bool
breaks_text Size type string text = is_known type && not (may_be type (count_of string text))
breaks_text StringType type string text = not (may_be_string type string)
breaks_text Characters type string text = string == 19 && not (list_all is_printable text)

abbrev pub breaks_value : TextRule → List ℕ → Option (ℕ × List ℕ × List ℕ) → Bool
breaks_value r type None = false
breaks_value r type (Some (string, text, others)) = breaks_text r type string text

abbrev pub breaks_attribute_of : TextRule → Option (ℕ × List ℕ × List ℕ) → Bool
breaks_attribute_of r None = false
breaks_attribute_of r (Some (identifier, type, value)) = breaks_value r type (front_of value)

-- whether an attribute breaks a rule
abbrev pub breaks_attribute : TextRule → List ℕ → Bool
breaks_attribute r attribute = breaks_attribute_of r (front_of attribute)

-- whether an attribute of a name breaks a rule
abbrev pub breaks_name : TextRule → List ℕ → Bool
breaks_name r = one_within (breaks_attribute r)

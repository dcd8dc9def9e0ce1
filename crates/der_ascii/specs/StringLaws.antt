-- The laws of strings of characters.
use Rattle.std.proofs.Common.{◌≡◌, ℕ, List, Bool, true, false, Ok, refl, ap, ◌∙◌, lit<, ◌==◌, if◌then◌else◌, Err}
use Rattle.der_tlv.specs.declared.encoding_rules.EncodingRules.{EncodingRules}
use Rattle.der_tlv.specs.declared.tag.Tag.TheVariants.{PrintableString, TeletexString, VideotexString, Ia5String}
use Rattle.der_tlv.specs.TagParts.{IsTag}
use Rattle.der_tlv.specs.declared.error.ErrorKind.TheVariants as kinds
use Rattle.der_tlv.specs.OctetFaults.{IsOfOctets, of_octets_either}
use Rattle.der_ascii.specs.Characters.{are_characters, string_tag, parse_string}

-- characters are parsed unchanged
pub parse_of_characters : (number : ℕ) (rules : EncodingRules) (p : ℕ) (text c : List ℕ) → are_characters number text ≡ true → c ≡ text → parse_string number rules p c ≡ Ok text
parse_of_characters number rules p text c all e = ap (parse_string number rules p) e ∙ rw all refl

-- the tag has a small number
pub string_tag-in_range : (number : ℕ) → IsTag (string_tag number)
string_tag-in_range number = at (number == 19) (number == 20) (number == 21)
  where
    at : (a b c : Bool) → IsTag (if a then PrintableString else (if b then TeletexString else (if c then VideotexString else Ia5String)))
    at true b c = lit< tt
    at false true c = lit< tt
    at false false true = lit< tt
    at false false false = lit< tt

-- each error is an error in the octets
pub characters_of_octets : (number : ℕ) (rules : EncodingRules) (p : ℕ) (octets : List ℕ) → IsOfOctets (parse_string number rules p octets)
characters_of_octets number rules p octets = of_octets_either (are_characters number octets) (Ok octets) (Err (kinds.Value (string_tag number))) tt refl

-- UTF8String: the contents octets are UTF-8 (X.690 8.23).
use Rattle.std.proofs.Common.{◌≡◌, ℕ, if◌then◌else◌, List, true, Ok, Err, refl, ap, ◌∙◌}
use Rattle.std.specs.Str.{is_utf8}
use Rattle.std.specs.String.{string_bytes}
use Rattle.std.specs.declared.string.String.{String}
use Rattle.std.proofs.lemmas.Str.{is_utf8-from_IsUtf8, IsUtf8-string_bytes}
use Rattle.der_tlv.specs.declared.error.ErrorKind.TheVariants.{Utf8}
use Rattle.der_tlv.specs.declared.encoding_rules.EncodingRules.{EncodingRules}
use Rattle.der_tlv.specs.OctetFaults.{IsOfOctets, of_octets_either}
use Rattle.der_elem.specs.Parsing.{ContentsParse}

-- octets that are UTF-8 are read as they are, and others are refused (12)
abbrev pub parse_utf8 : ContentsParse
parse_utf8 rules p octets = if is_utf8 octets then Ok octets else Err Utf8

-- UTF-8 is parsed as it is
pub parse_of_utf8 : (rules : EncodingRules) (p : ℕ) (text c : List ℕ) → is_utf8 text ≡ true → c ≡ text → parse_utf8 rules p c ≡ Ok text
parse_of_utf8 rules p text c utf8 e = ap (parse_utf8 rules p) e ∙ rw utf8 refl

-- the octets of a string are parsed as they are
pub parse_utf8-own : {Z : Type 0} (rules : EncodingRules) (s : String Z) (p : ℕ) → parse_utf8 rules p (string_bytes s) ≡ Ok (string_bytes s)
parse_utf8-own rules s p = parse_of_utf8 rules p (string_bytes s) (string_bytes s) (is_utf8-from_IsUtf8 (string_bytes s) (IsUtf8-string_bytes s)) refl

-- the errors are in the octets
pub utf8_of_octets : (rules : EncodingRules) (p : ℕ) (octets : List ℕ) → IsOfOctets (parse_utf8 rules p octets)
utf8_of_octets rules p octets = of_octets_either (is_utf8 octets) (Ok octets) (Err Utf8) tt refl

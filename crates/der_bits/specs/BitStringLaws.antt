-- The laws of bit strings.
use Rattle.std.proofs.Common.{◌≡◌, ℕ, List, ◌∷◌, true, Ok, refl, ap, ◌∙◌, [], Err}
use Rattle.der_tlv.specs.declared.encoding_rules.EncodingRules.{EncodingRules}
use Rattle.der_tlv.specs.declared.error.ErrorKind.TheVariants as kinds
use Rattle.der_tlv.specs.declared.tag.Tag.TheVariants as tags
use Rattle.der_tlv.specs.OctetFaults.{IsOfOctets, of_octets_either}
use Rattle.der_bits.specs.BitString.{can_be_unused, are_zero, bits_or_fault, parse_bits, parse_bit_string}

module _ (count : ℕ) (octets : List ℕ) (possible : can_be_unused count octets ≡ true) (zero : are_zero count octets ≡ true) where
  -- a possible number of unused bits, and octets whose unused bits are zero, have no error
  pub parsed : parse_bits count octets ≡ Ok (count ∷ octets)
  parsed = rw (possible, zero) refl

  -- octets that are accepted are parsed as the bit string
  pub parse_of_bits : (rules : EncodingRules) (p : ℕ) (c : List ℕ) → c ≡ count ∷ octets → parse_bit_string rules p c ≡ Ok (count ∷ octets)
  parse_of_bits rules p c a = ap bits_or_fault a ∙ parsed

-- the errors are errors of the octets
pub bits_of_octets : (rules : EncodingRules) (p : ℕ) (contents : List ℕ) → IsOfOctets (parse_bit_string rules p contents)
bits_of_octets rules p [] = refl
bits_of_octets rules p (count ∷ octets) =
    of_octets_either (can_be_unused count octets) _ _ (of_octets_either (are_zero count octets) (Ok (count ∷ octets)) (Err (kinds.Noncanonical tags.BitString)) tt refl) refl

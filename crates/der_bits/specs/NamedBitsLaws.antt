-- The laws of named bits.
use Rattle.std.proofs.Common.{◌≡◌, ℕ, ◌-◌, ◌*◌, ◌/◌, ◌%◌, ◌^◌, ◌≤◌, nat_eq, length, arith, inl, inr, List, ◌∷◌, true, false, Result, Ok, Err, refl, ap, ◌∙◌}
use Rattle.der_tlv.specs.declared.encoding_rules.EncodingRules.{EncodingRules}
use Rattle.der_tlv.specs.declared.error.ErrorKind.{ErrorKind}
use Rattle.der_tlv.specs.declared.error.ErrorKind.TheVariants as kinds
use Rattle.der_tlv.specs.declared.tag.Tag.TheVariants as tags
use Rattle.der_tlv.specs.OctetFaults.{IsOfOctets, of_octets_either}
use Rattle.der_bits.specs.BitString.{can_be_unused, are_zero, unused_count, bit_octets, bits_or_fault}
use Rattle.std.proofs.lemmas.Bool.{cases_lt}
use Rattle.std.proofs.lemmas.List.{get_or_past}
use Rattle.std.proofs.lemmas.Nat.Bits.{bit_at-zero}
use Rattle.der_bits.specs.BitString.{bit_at_place}
use Rattle.der_bits.specs.EqualBitsLaws.{unused_bound, unused_zero}
use Rattle.der_bits.specs.BitStringLaws.{parsed, bits_of_octets}
use Rattle.der_bits.specs.NamedBits.{ends_in_one, ending_in_one, named_bits_or_fault, parse_named_bits}

-- bits that end in 1 have no error
pub named_parsed : (count : ℕ) (octets : List ℕ) → can_be_unused count octets ≡ true → are_zero count octets ≡ true → ends_in_one count octets ≡ true → named_bits_or_fault (count ∷ octets) ≡ Ok (count ∷ octets)
named_parsed count octets possible zero one = ap ending_in_one (parsed count octets possible zero) ∙ rw one refl

-- a bit string that ends in 1 is read, and one that does not is refused
pub named_ok : (contents : List ℕ) → bits_or_fault contents ≡ Ok contents → ends_in_one (unused_count contents) (bit_octets contents) ≡ true → named_bits_or_fault contents ≡ Ok contents
named_ok contents read one = ap ending_in_one read ∙ rw one refl

pub named_refused : (contents : List ℕ) → bits_or_fault contents ≡ Ok contents → ends_in_one (unused_count contents) (bit_octets contents) ≡ false → named_bits_or_fault contents ≡ Err (kinds.Noncanonical tags.BitString)
named_refused contents read none = ap ending_in_one read ∙ rw none refl

pub named_fault : (contents : List ℕ) (kind : ErrorKind) → bits_or_fault contents ≡ Err kind → named_bits_or_fault contents ≡ Err kind
named_fault contents kind fault = ap ending_in_one fault

-- a bit past the end is 0
pub past_end : (count : ℕ) (octets : List ℕ) → can_be_unused count octets ≡ true → are_zero count octets ≡ true → (place : ℕ) → 8 * length octets - count ≤ place → bit_at_place octets place ≡ false
past_end count octets possible zero place past = elim (cases_lt place (8 * length octets)) [
  | inl below ↦ unused_zero count octets (unused_bound count octets possible).0 zero place past below
  | inr above ↦
      ap (λ n. nat_eq (n / 2 ^ (7 - place % 8) % 2) 1) (get_or_past octets (place / 8) 0 (omega (arith, above))) ∙ ap (λ n. nat_eq n 1) (bit_at-zero (7 - place % 8))
]

-- the errors are errors of the octets
ending_of_octets : (r : Result (List ℕ) ErrorKind) → IsOfOctets r → IsOfOctets (ending_in_one r)
ending_of_octets (Ok contents) h = of_octets_either (ends_in_one (unused_count contents) (bit_octets contents)) (Ok contents) (Err (kinds.Noncanonical tags.BitString)) tt refl
ending_of_octets (Err kind) h = h

pub named_bits_of_octets : (rules : EncodingRules) (p : ℕ) (contents : List ℕ) → IsOfOctets (parse_named_bits rules p contents)
named_bits_of_octets rules p contents = ending_of_octets (bits_or_fault contents) (bits_of_octets rules p contents)

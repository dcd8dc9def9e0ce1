-- Laws of INTEGER with any number of contents octets (X.690 8.3).
use Rattle.std.proofs.Common.{◌≡◌, ℕ, ◌<◌, true, false, List, [], ◌∷◌, length, drop, ℤ, pos, negsuc, Ok, Err, refl, sym, ap, ◌∙◌, arith, inl, inr, nat_le}
use Rattle.std.proofs.lemmas.Bool.{cases_lt}
use Rattle.std.proofs.lemmas.Bool.Decides.{nat_tests}
use Rattle.der_tlv.specs.declared.error.ErrorKind.{ErrorKind}
use Rattle.der_tlv.specs.declared.encoding_rules.EncodingRules.{EncodingRules}
use Rattle.der_tlv.specs.declared.error.ErrorKind.TheVariants as kinds
use Rattle.der_tlv.specs.declared.tag.Tag.TheVariants.{Integer}
use Rattle.der_tlv.specs.OctetFaults.{IsOfOctets, of_octets_either}
use Rattle.der_elem.specs.IntegerReading.{has_needless_zero}
use Rattle.der_elem.specs.Integer.{AreOctets, big_endian_number, integer_contents, twos_complement, is_redundant, complement_octets, natural_contents}
use Rattle.der_elem.specs.IntegerLaws.{integer_contents_twos_complement, twos_complement_integer_contents, integer_contents-some, integer_contents-pos, integer_contents-needed, twos_complement-pos, twos_complement-negsuc}
use Rattle.der_numbers.specs.AnyLength.{integer_or_fault, parse_integer, parse_natural}

-- ---- reading

-- octets with no error are read as they are
pub integer_or_fault-ok : (octets : List ℕ) → 0 < length octets → is_redundant octets ≡ false → integer_or_fault octets ≡ Ok octets
integer_or_fault-ok [] some needed = absurd (omega arith)
integer_or_fault-ok (first ∷ others) some needed = rw needed refl

-- octets that are the contents octets of their integer are read as they are
pub parse_of_integer : (octets c : List ℕ) → octets ≡ integer_contents (twos_complement octets) → c ≡ octets → integer_or_fault c ≡ Ok octets
parse_of_integer octets c fewest e =
    ap integer_or_fault e
    ∙ integer_or_fault-ok octets (omega (arith, ap length fewest, integer_contents-some (twos_complement octets))) (ap is_redundant fewest ∙ integer_contents-needed (twos_complement octets))

-- octets with an error are not the contents octets of any integer
pub no_integer : (octets kept : List ℕ) {kind : ErrorKind} → integer_or_fault octets ≡ Err kind → kept ≡ integer_contents (twos_complement kept) → octets ≡ kept → ⊥
no_integer octets kept fault fewest e = let ok = parse_of_integer kept octets fewest e in absurd (cc)

-- ---- the fewest octets of an integer

-- octets that are not redundant are the contents octets of their integer
pub integer_contents-kept : (octets : List ℕ) → AreOctets octets → 0 < length octets → is_redundant octets ≡ false → octets ≡ integer_contents (twos_complement octets)
integer_contents-kept octets all some needed = sym (integer_contents_twos_complement octets all some needed)

-- the contents octets of an integer are the contents octets of the integer whose two's complement they are
pub integer_contents-own : (z : ℤ) (octets : List ℕ) → octets ≡ integer_contents z → octets ≡ integer_contents (twos_complement octets)
integer_contents-own z octets e = e ∙ ap integer_contents (sym (ap twos_complement e ∙ twos_complement_integer_contents z))

-- the contents octets of a number that is not negative are those of the integer whose two's complement they are
pub integer_contents-of_natural : (n : ℕ) (octets : List ℕ) → octets ≡ natural_contents n → octets ≡ integer_contents (twos_complement octets)
integer_contents-of_natural n octets e = integer_contents-own (pos n) octets (e ∙ sym (integer_contents-pos n))

-- a redundant first octet is followed by another, and the integer does not need it
pub twos_complement-redundant : (octets : List ℕ) → AreOctets octets → is_redundant octets ≡ true → (1 < length octets) × (twos_complement octets ≡ twos_complement (drop 1 octets))
twos_complement-redundant [] all redundant = absurd (cc)
twos_complement-redundant (first ∷ []) all redundant = absurd (cc)
twos_complement-redundant (first ∷ second ∷ others) all redundant = (
  omega arith,
  elim (cases_lt second 128) [
    | inl small ↦
        let zero : first ≡ 0 = grind (arith, nat_tests) in
        twos_complement-pos (first ∷ second ∷ others) (omega arith)
        ∙ ap (λ f. pos (big_endian_number (f ∷ second ∷ others))) zero
        ∙ sym (twos_complement-pos (second ∷ others) small)
    | inr large ↦
        let ones : first ≡ 255 = grind (arith, nat_tests) in
        twos_complement-negsuc (first ∷ second ∷ others) all (omega arith)
        ∙ ap (λ f. negsuc (big_endian_number (complement_octets (f ∷ second ∷ others)))) ones
        ∙ sym (twos_complement-negsuc (second ∷ others) all.1 large)
  ],
)

-- the errors are errors of the octets
pub integer_of_octets : (rules : EncodingRules) (p : ℕ) (octets : List ℕ) → IsOfOctets (parse_integer rules p octets)
integer_of_octets rules p [] = refl
integer_of_octets rules p (first ∷ others) = of_octets_either (is_redundant (first ∷ others)) (Err (kinds.Noncanonical Integer)) (Ok (first ∷ others)) refl tt

pub natural_of_octets : (rules : EncodingRules) (p : ℕ) (octets : List ℕ) → IsOfOctets (parse_natural rules p octets)
natural_of_octets rules p [] = refl
natural_of_octets rules p (first ∷ others) =
    of_octets_either (has_needless_zero (first ∷ others)) _ _ refl (of_octets_either (nat_le 128 first) (Err (kinds.Value Integer)) (Ok (first ∷ others)) refl tt)

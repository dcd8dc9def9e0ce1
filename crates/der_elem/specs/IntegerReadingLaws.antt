-- Laws of reading contents octets as an INTEGER of a number of octets.
use Rattle.std.proofs.Common.{◌≡◌, refl, ◌∙◌, arith, ◌≤◌, slice_index, inl, inr, ℕ, ◌+◌, ◌<◌, ◌||◌, ◌&&◌, ◌==◌, nat_lt, nat_le, if◌then◌else◌, List, [], ◌∷◌, length, Bool, true, false, ℤ, Ok, Err}
use Rattle.std.proofs.lemmas.Bool.{or_parts}
use Rattle.std.proofs.lemmas.Bool.Decides.{nat_tests}
use Rattle.der_tlv.specs.declared.encoding_rules.EncodingRules.{EncodingRules}
use Rattle.der_tlv.specs.OctetFaults.{IsOfOctets, of_octets_either}
use Rattle.der_tlv.specs.declared.error.ErrorKind.TheVariants as kinds
use Rattle.der_tlv.specs.declared.tag.Tag.TheVariants.{Integer}
use Rattle.der_elem.specs.Integer.{natural_contents, integer_contents, is_redundant, FitsSignedWidth, FitsUnsignedWidth, FitsUnsignedOctets, fits_unsigned}
use Rattle.der_elem.specs.IntegerLaws.{natural_contents-some, natural_contents-first, natural_contents-needed, natural_contents-fits_octets, Decides-fits_unsigned, integer_contents-some, integer_contents-needed, integer_contents-length_le_width}
use Rattle.der_elem.specs.IntegerReading.{has_needless_zero, signed_or_fault, unsigned_or_fault, parse_signed, parse_unsigned}

-- neither of two errors
fault_unless : {A : Type 0} (a b : Bool) (fault ok : A) → a ≡ false → b ≡ false → (if a || b then fault else ok) ≡ ok
fault_unless false false fault ok _ _ = refl
fault_unless true b fault ok e _ = absurd (cc)
fault_unless false true fault ok _ f = absurd (cc)

-- octets with none of the errors are read
pub signed_or_fault-ok : (width : ℕ) (octets : List ℕ) → 0 < length octets → length octets ≤ width → is_redundant octets ≡ false → signed_or_fault width octets ≡ Ok octets
signed_or_fault-ok width [] some within needed = absurd (omega arith)
signed_or_fault-ok width (first ∷ others) some within needed =
    let few : nat_lt width (length (first ∷ others)) ≡ false = grind (arith, nat_tests) in
    fault_unless (nat_lt width (length (first ∷ others))) (is_redundant (first ∷ others)) (Err (kinds.Noncanonical Integer)) (Ok (first ∷ others)) few needed

-- octets that are not redundant have no needless 00
pub needless_zero-needed : (octets : List ℕ) → is_redundant octets ≡ false → has_needless_zero octets ≡ false
needless_zero-needed [] needed = refl
needless_zero-needed (first ∷ []) needed = refl
needless_zero-needed (first ∷ second ∷ others) needed = (or_parts (first == 0 && nat_lt second 128) (first == 255 && nat_le 128 second) needed).0

-- octets that fit in w octets, apart from a 00 in front, pass the two tests of their length
fits_tests : (width : ℕ) (octets : List ℕ) → FitsUnsignedOctets width octets → (nat_lt (width + 1) (length octets) ≡ false) × (fits_unsigned width octets ≡ true)
fits_tests width octets fits = (elim fits [ inl within ↦ grind (arith, nat_tests) | inr more ↦ (let e = more.1 in grind (arith, nat_tests)) ], (Decides-fits_unsigned width octets).1 fits)

-- octets with none of the errors are read
pub unsigned_or_fault-ok : (width : ℕ) (octets : List ℕ) → 0 < length octets → slice_index octets 0 < 128 → FitsUnsignedOctets width octets → is_redundant octets ≡ false → unsigned_or_fault width octets ≡ Ok octets
unsigned_or_fault-ok width [] some small fits needed = absurd (omega arith)
unsigned_or_fault-ok width (first ∷ others) some small fits needed =
    let octets = first ∷ others in
    let tests = fits_tests width octets fits in
    let positive : nat_le 128 first ≡ false = grind (arith, nat_tests) in
    fault_unless (nat_lt (width + 1) (length octets)) (has_needless_zero octets) _ _ tests.0 (needless_zero-needed octets needed)
    ∙ rw (positive, tests.1) refl

-- the contents octets of an integer in range are read
pub parse_signed-own : (width : ℕ) → 0 < width → (rules : EncodingRules) (z : ℤ) (p : ℕ) → FitsSignedWidth width z → parse_signed width rules p (integer_contents z) ≡ Ok (integer_contents z)
parse_signed-own width some rules z p fits = signed_or_fault-ok width (integer_contents z) (integer_contents-some z) (integer_contents-length_le_width width z some fits) (integer_contents-needed z)

-- the contents octets of a number in range that is not negative are read
pub parse_unsigned-own : (width : ℕ) (rules : EncodingRules) (n p : ℕ) → FitsUnsignedWidth width n → parse_unsigned width rules p (natural_contents n) ≡ Ok (natural_contents n)
parse_unsigned-own width rules n p fits = unsigned_or_fault-ok width (natural_contents n) (natural_contents-some n) (natural_contents-first n) (natural_contents-fits_octets n width fits) (natural_contents-needed n)

-- the errors are in the octets
pub signed_of_octets : (width : ℕ) (rules : EncodingRules) (p : ℕ) (octets : List ℕ) → IsOfOctets (parse_signed width rules p octets)
signed_of_octets width rules p [] = refl
signed_of_octets width rules p (first ∷ others) =
    of_octets_either (nat_lt width (length (first ∷ others)) || is_redundant (first ∷ others)) (Err (kinds.Noncanonical Integer)) (Ok (first ∷ others)) refl tt

pub unsigned_of_octets : (width : ℕ) (rules : EncodingRules) (p : ℕ) (octets : List ℕ) → IsOfOctets (parse_unsigned width rules p octets)
unsigned_of_octets width rules p [] = refl
unsigned_of_octets width rules p (first ∷ others) =
    of_octets_either (nat_lt (width + 1) (length (first ∷ others)) || has_needless_zero (first ∷ others)) _ _ refl (of_octets_either (nat_le 128 first) _ _ refl (of_octets_either (fits_unsigned width (first ∷ others)) (Ok (first ∷ others)) (Err (kinds.Length Integer)) tt refl))

-- Laws of INTEGER with any number of contents octets, for numbers that are not negative (X.690 8.3).
use Rattle.std.proofs.Common.{◌≡◌, ℕ, zero, suc, ◌<◌, ◌≤◌, true, false, cond, nat_le, nat_eq, List, [], ◌∷◌, length, slice_index, drop, Ok, Err, refl, sym, ap, ap₂, ◌∙◌, arith, inl, inr, lt-ltb, le-ltb}
use Rattle.std.proofs.lemmas.Bool.{cases_lt}
use Rattle.std.proofs.lemmas.Bool.Decides.{nat_tests}
use Rattle.std.specs.Cmp.Lexicographic.{pointwise}
use Rattle.der_tlv.specs.declared.error.ErrorKind.{ErrorKind}
use Rattle.der_elem.specs.Integer.{AreOctets, big_endian_number, with_sign_octet, natural_contents, is_redundant}
use Rattle.der_elem.specs.IntegerLaws.{natural_contents-small, natural_contents-with_sign_octet, natural_contents-some, natural_contents-first, natural_contents-needed, natural_contents-of_octets}
use Rattle.der_elem.specs.IntegerReading.{has_needless_zero}
use Rattle.der_elem.specs.IntegerReadingLaws.{needless_zero-needed}
use Rattle.der_numbers.specs.AnyLength.{natural_or_fault, has_leading_zero, without_sign_octet}

-- ---- the leading octet for the sign

-- no octet if bit 8 of the first is zero
pub with_sign_octet-small : (first : ℕ) (others : List ℕ) → first < 128 → with_sign_octet (first ∷ others) ≡ first ∷ others
with_sign_octet-small first others small = ap (λ t. cond t (first ∷ others) (0 ∷ first ∷ others)) (lt-ltb first 128 small)

-- a 00 if it is set
pub with_sign_octet-large : (first : ℕ) (others : List ℕ) → 128 ≤ first → with_sign_octet (first ∷ others) ≡ 0 ∷ first ∷ others
with_sign_octet-large first others large = ap (λ t. cond t (first ∷ others) (0 ∷ first ∷ others)) (le-ltb first 128 large)

-- no octet, for the octets as a whole
pub with_sign_octet-none : (octets : List ℕ) → 0 < length octets → slice_index octets 0 < 128 → with_sign_octet octets ≡ octets
with_sign_octet-none [] some small = absurd (omega arith)
with_sign_octet-none (first ∷ others) some small = with_sign_octet-small first others small

pub with_sign_octet-needed : (octets : List ℕ) → 0 < length octets → 128 ≤ slice_index octets 0 → with_sign_octet octets ≡ 0 ∷ octets
with_sign_octet-needed [] some large = absurd (omega arith)
with_sign_octet-needed (first ∷ others) some large = with_sign_octet-large first others large

-- it adds one octet or none
pub sign_octet_length : (octets : List ℕ) → length octets ≤ length (with_sign_octet octets)
sign_octet_length [] = omega arith
sign_octet_length (first ∷ others) = elim (cases_lt first 128) [
  | inl small ↦ omega (arith, ap length (with_sign_octet-small first others small))
  | inr large ↦ omega (arith, ap length (with_sign_octet-large first others large))
]

-- ---- reading

-- octets whose first is below 128 and that have no needless 00 are not redundant
needed : (octets : List ℕ) → slice_index octets 0 < 128 → has_needless_zero octets ≡ false → is_redundant octets ≡ false
needed [] small least = refl
needed (first ∷ []) small least = refl
needed (first ∷ second ∷ others) small least = grind (arith, nat_tests)

-- octets with no error are read as they are
pub natural_or_fault-ok : (octets : List ℕ) → 0 < length octets → slice_index octets 0 < 128 → has_needless_zero octets ≡ false → natural_or_fault octets ≡ Ok octets
natural_or_fault-ok [] some small least = absurd (omega arith)
natural_or_fault-ok (first ∷ others) some small least = let t : nat_le 128 first ≡ false = grind (arith, nat_tests) in rw (least, t) refl

-- octets with no error are the contents octets of their number
pub natural_contents-read : (octets : List ℕ) → AreOctets octets → 0 < length octets → slice_index octets 0 < 128 → has_needless_zero octets ≡ false → octets ≡ natural_contents (big_endian_number octets)
natural_contents-read octets all some small least = sym (natural_contents-of_octets octets all some small (needed octets small least))

-- the contents octets of a number are read as they are
pub natural_or_fault-contents : (n : ℕ) → natural_or_fault (natural_contents n) ≡ Ok (natural_contents n)
natural_or_fault-contents n = natural_or_fault-ok (natural_contents n) (natural_contents-some n) (natural_contents-first n) (needless_zero-needed (natural_contents n) (natural_contents-needed n))

-- octets that are the contents octets of a number are read as they are
pub parse_of_natural : (kept c : List ℕ) → with_sign_octet kept ≡ natural_contents (big_endian_number kept) → c ≡ with_sign_octet kept → natural_or_fault c ≡ Ok (with_sign_octet kept)
parse_of_natural kept c fewest e =
    ap natural_or_fault (e ∙ fewest) ∙ natural_or_fault-contents (big_endian_number kept) ∙ ap Ok (sym fewest)

-- octets with an error are not the contents octets of any number
pub no_natural : (octets kept : List ℕ) {kind : ErrorKind} → natural_or_fault octets ≡ Err kind → with_sign_octet kept ≡ natural_contents (big_endian_number kept) → octets ≡ with_sign_octet kept → ⊥
no_natural octets kept fault fewest e = let ok = parse_of_natural kept octets fewest e in absurd (cc)

-- ---- leading zeros

-- a leading 00 is followed by another octet, and adds nothing to the number
pub number-leading_zero : (octets : List ℕ) → AreOctets octets → has_leading_zero octets ≡ true → (1 < length octets) × (big_endian_number octets ≡ big_endian_number (drop 1 octets))
number-leading_zero [] all leads = absurd (cc)
number-leading_zero (first ∷ []) all leads = absurd (cc)
number-leading_zero (first ∷ second ∷ others) all leads =
    let z : first ≡ 0 = grind (arith, nat_tests) in
    (omega arith, ap (λ f. big_endian_number (f ∷ second ∷ others)) z)

-- octets without leading zeros are the contents octets of their number, with the sign octet if it is needed
pub natural_contents-kept : (octets : List ℕ) → AreOctets octets → 0 < length octets → has_leading_zero octets ≡ false → with_sign_octet octets ≡ natural_contents (big_endian_number octets)
natural_contents-kept [] all some stripped = absurd (omega arith)
natural_contents-kept (zero ∷ []) all some stripped = sym (natural_contents-small 0 (omega arith))
natural_contents-kept (zero ∷ second ∷ others) all some stripped = absurd (cc)
natural_contents-kept (suc first ∷ others) all some stripped = sym (natural_contents-with_sign_octet (suc first ∷ others) all (λ h. omega arith))

-- removing the sign octet gives the octets again
pub without_sign_octet_kept : (octets : List ℕ) → 0 < length octets → has_leading_zero octets ≡ false → without_sign_octet (with_sign_octet octets) ≡ octets
without_sign_octet_kept [] some stripped = absurd (omega arith)
without_sign_octet_kept (first ∷ others) some stripped = elim (cases_lt first 128) [
  | inl small ↦ ap without_sign_octet (with_sign_octet-small first others small) ∙ own first others stripped
  | inr large ↦ ap without_sign_octet (with_sign_octet-large first others large)
]
  where
    own : (first : ℕ) (others : List ℕ) → has_leading_zero (first ∷ others) ≡ false → without_sign_octet (first ∷ others) ≡ first ∷ others
    own first [] stripped = refl
    own first (second ∷ others) stripped = rw stripped refl

-- ---- equality of contents octets

-- contents octets are equal exactly if they are equal without the sign octet
pub pointwise_contents : (a b : List ℕ) → 0 < length a → 0 < length b → has_leading_zero a ≡ false → has_leading_zero b ≡ false → pointwise nat_eq a b ≡ pointwise nat_eq (with_sign_octet a) (with_sign_octet b)
pointwise_contents [] b some_a some_b stripped_a stripped_b = absurd (omega arith)
pointwise_contents (first ∷ others) [] some_a some_b stripped_a stripped_b = absurd (omega arith)
pointwise_contents (x ∷ xs) (y ∷ ys) some_a some_b stripped_a stripped_b = elim (cases_lt x 128) [
  | inl small_x ↦ elim (cases_lt y 128) [
    | inl small_y ↦ rw (with_sign_octet-small x xs small_x, with_sign_octet-small y ys small_y) refl
    | inr large_y ↦ differ x y xs ys small_x large_y ∙ sym (ap₂ (pointwise nat_eq) (with_sign_octet-small x xs small_x) (with_sign_octet-large y ys large_y) ∙ shifted x y xs ys stripped_a)
  ]
  | inr large_x ↦ elim (cases_lt y 128) [
    | inl small_y ↦ differ_back x y xs ys large_x small_y ∙ sym (ap₂ (pointwise nat_eq) (with_sign_octet-large x xs large_x) (with_sign_octet-small y ys small_y) ∙ shifted_back x y xs ys stripped_b)
    | inr large_y ↦ sym (ap₂ (pointwise nat_eq) (with_sign_octet-large x xs large_x) (with_sign_octet-large y ys large_y))
  ]
]
  where
    differ : (x y : ℕ) (xs ys : List ℕ) → x < 128 → 128 ≤ y → pointwise nat_eq (x ∷ xs) (y ∷ ys) ≡ false
    differ x y xs ys small large = let t : nat_eq x y ≡ false = grind (arith, nat_tests) in rw t refl

    differ_back : (x y : ℕ) (xs ys : List ℕ) → 128 ≤ x → y < 128 → pointwise nat_eq (x ∷ xs) (y ∷ ys) ≡ false
    differ_back x y xs ys large small = let t : nat_eq x y ≡ false = grind (arith, nat_tests) in rw t refl

    shifted : (x y : ℕ) (xs ys : List ℕ) → has_leading_zero (x ∷ xs) ≡ false → pointwise nat_eq (x ∷ xs) (0 ∷ y ∷ ys) ≡ false
    shifted zero y [] ys stripped = refl
    shifted zero y (second ∷ xs) ys stripped = absurd (cc)
    shifted (suc x) y xs ys stripped = let t : nat_eq (suc x) 0 ≡ false = grind (arith, nat_tests) in rw t refl

    shifted_back : (x y : ℕ) (xs ys : List ℕ) → has_leading_zero (y ∷ ys) ≡ false → pointwise nat_eq (0 ∷ x ∷ xs) (y ∷ ys) ≡ false
    shifted_back x zero xs [] stripped = refl
    shifted_back x zero xs (second ∷ ys) stripped = absurd (cc)
    shifted_back x (suc y) xs ys stripped = let t : nat_eq 0 (suc y) ≡ false = grind (arith, nat_tests) in rw t refl

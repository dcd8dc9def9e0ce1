-- Bit strings with equal bits have equal contents octets, since their unused bits are zero.
use Rattle.std.proofs.Common.{◌≡◌, ℕ, ◌+◌, ◌-◌, ◌*◌, ◌/◌, ◌%◌, ◌^◌, ◌<◌, ◌≤◌, nat_eq, Bool, true, false, List, [], ◌∷◌, length, slice_index_or, sym, ap, ◌∙◌, arith, subst, inl, inr, eqb-true, leb-true, IsTrue, ◌↔◌, Some}
use Rattle.std.proofs.lemmas.Bool.{cases_lt}
use Rattle.std.proofs.lemmas.Bool.Decides.{nat_tests}
use Rattle.std.proofs.lemmas.List.{ext_get_or}
use Rattle.std.proofs.lemmas.Nat.{shr_split}
use Rattle.std.proofs.lemmas.Nat.Bits.{bit_at_cat_low, bit_at-zero, same_from_bits_below, bit_at-lt}
use Rattle.std.specs.Int.{bit_at}
use Rattle.std.specs.Bool.{beq}
use Rattle.std.specs.Cmp.{both_ways, booleans_Decides, bool_eq_equiv, IsEquivalence, IsPartialOrder, on_po}
use Rattle.std.specs.Cmp.Lexicographic.{pointwise, pointwise_decides, bytes_decides, lists_equiv, texts_po}
use Rattle.der_tlv.specs.Octets.{lex}
use Rattle.der_bits.specs.BitString.{AreOctets, bit_at_place, bits_from, bits, same_bits, can_be_unused, are_zero}
use Rattle.der_bits.specs.BitPlaceLaws.{same_places, length-bits_from}

-- a number of unused bits is at most 7, and no more than there are bits
pub unused_bound : (count : ℕ) (octets : List ℕ) → can_be_unused count octets ≡ true → (count ≤ 7) × (count ≤ 8 * length octets)
unused_bound count [] h = let e = eqb-true count 0 h in (omega (arith, e), omega (arith, e))
unused_bound count (octet ∷ octets) h =
    let e = leb-true count 7 h in (e, omega (arith, e))

low_bit : (n c k : ℕ) → n % 2 ^ c ≡ 0 → k < c → bit_at n k ≡ 0
low_bit n c k e h =
    ap (λ m. bit_at m k) (sym (shr_split n c)) ∙ bit_at_cat_low (n / 2 ^ c) c (n % 2 ^ c) k h ∙ ap (λ m. bit_at m k) e ∙ bit_at-zero k

-- each unused bit is zero
pub unused_zero : (count : ℕ) (octets : List ℕ) → count ≤ 7 → are_zero count octets ≡ true → (i : ℕ) → 8 * length octets - count ≤ i → i < 8 * length octets → bit_at_place octets i ≡ false
unused_zero count octets bound z i from below =
    let last : i / 8 ≡ length octets - 1 = omega (arith, bound, from, below) in
    let k : 7 - i % 8 < count = omega (arith, bound, from, below) in
    let none : slice_index_or octets (i / 8) 0 % 2 ^ count ≡ 0 = rw last (eqb-true _ 0 z) in
    ap (λ n. nat_eq n 1) (low_bit (slice_index_or octets (i / 8) 0) count (7 - i % 8) none k)

same_bit : (a b : ℕ) → a < 2 → b < 2 → nat_eq a 1 ≡ nat_eq b 1 → a ≡ b
same_bit a b p q e = grind (arith, nat_tests, p, q, e)

-- a bit by the index of its octet, and its position there
bit_of_octet : (octets : List ℕ) (i k j : ℕ) → i / 8 ≡ k → 7 - i % 8 ≡ j → bit_at_place octets i ≡ nat_eq (bit_at (slice_index_or octets k 0) j) 1
bit_of_octet octets i k j whole place =
    ap (λ n. nat_eq (slice_index_or octets n 0 / 2 ^ (7 - i % 8) % 2) 1) whole ∙ ap (λ n. nat_eq (slice_index_or octets k 0 / 2 ^ n % 2) 1) place

-- octets with equal bits at each position are equal
same_octets : (o p : List ℕ) → AreOctets o → AreOctets p → length o ≡ length p → ((i : ℕ) → i < 8 * length o → bit_at_place o i ≡ bit_at_place p i) → o ≡ p
same_octets o p octets_o octets_p l same = ext_get_or 0 o p l octet
  where
    at : (k j : ℕ) → k < length o → j < 8 → bit_at (slice_index_or o k 0) j ≡ bit_at (slice_index_or p k 0) j
    at k j below small =
        let whole : (8 * k + (7 - j)) / 8 ≡ k = omega (arith, small) in
        let place : 7 - (8 * k + (7 - j)) % 8 ≡ j = omega (arith, small) in
        let e = sym (bit_of_octet o (8 * k + (7 - j)) k j whole place) ∙ same (8 * k + (7 - j)) (omega (arith, below, small)) ∙ bit_of_octet p (8 * k + (7 - j)) k j whole place in
        same_bit _ _ (bit_at-lt (slice_index_or o k 0) j) (bit_at-lt (slice_index_or p k 0) j) e

    octet : (k : ℕ) → k < length o → slice_index_or o k 0 ≡ slice_index_or p k 0
    octet k below =
        same_from_bits_below 8 (slice_index_or o k 0) (slice_index_or p k 0) (octets_o k) (octets_p k) (λ j small. at k j below small)

module _ (u w : ℕ) (o p : List ℕ) (possible_o : can_be_unused u o ≡ true) (zero_o : are_zero u o ≡ true) (possible_p : can_be_unused w p ≡ true) (zero_p : are_zero w p ≡ true) (octets_o : AreOctets o) (octets_p : AreOctets p) where
  pub same_contents : bits (u ∷ o) ≡ bits (w ∷ p) → (u ∷ o) ≡ (w ∷ p)
  same_contents e =
      let counts : 8 * length o - u ≡ 8 * length p - w = sym (length-bits_from o 0 (8 * length o - u)) ∙ ap length e ∙ length-bits_from p 0 (8 * length p - w) in
      let bo = unused_bound u o possible_o in
      let bp = unused_bound w p possible_p in
      let l : length o ≡ length p = omega (arith, counts, bo.0, bo.1, bp.0, bp.1) in
      let c : u ≡ w = omega (arith, counts, l, bo.0, bo.1, bp.0, bp.1) in
      let f : bits_from o 0 (8 * length o - u) ≡ bits_from p 0 (8 * length o - u) = e ∙ ap (bits_from p 0) (sym counts) in
      let same : (i : ℕ) → i < 8 * length o → bit_at_place o i ≡ bit_at_place p i = λ i h. elim (cases_lt i (8 * length o - u)) [
        | inl below ↦ let z : 0 + i ≡ i = omega arith in subst (λ k. bit_at_place o k ≡ bit_at_place p k) z (same_places o p 0 (8 * length o - u) i f below)
        | inr above ↦ unused_zero u o bo.0 zero_o i above h ∙ sym (unused_zero w p bp.0 zero_p i (omega (arith, above, counts)) (omega (arith, h, l)))
      ] in
      ap (λ n. n ∷ o) c ∙ ap (λ x. w ∷ x) (same_octets o p octets_o octets_p l same)

  -- the test of the bits is the test of the contents octets
  pub same_tests : same_bits (u ∷ o) (w ∷ p) ≡ pointwise nat_eq (u ∷ o) (w ∷ p)
  same_tests =
      let of_bits = pointwise_decides {E = beq} booleans_Decides (bits (u ∷ o)) (bits (w ∷ p)) in
      let of_contents = bytes_decides (u ∷ o) (w ∷ p) in
      both_ways (same_bits (u ∷ o) (w ∷ p)) (pointwise nat_eq (u ∷ o) (w ∷ p)) (λ h. of_contents.1 (same_contents (of_bits.0 h))) (λ h. of_bits.1 (ap bits (of_contents.0 h)))

-- the test of bits decides whether they are equal
pub same_bits-decides : (c d : List ℕ) (b : Bool) → b ≡ same_bits c d → IsTrue b ↔ (bits c ≡ bits d)
same_bits-decides c d b e =
    let decides = pointwise_decides {E = beq} booleans_Decides (bits c) (bits d) in
    (λ h. decides.0 (sym e ∙ h), λ s. e ∙ decides.1 s)

-- if it is the test of contents octets, it decides whether these are equal
pub contents_decided : (c d : List ℕ) → same_bits c d ≡ pointwise nat_eq c d → IsTrue (same_bits c d) ↔ (c ≡ d)
contents_decided c d e =
    let decides = bytes_decides c d in
    (λ h. decides.0 (sym e ∙ h), λ s. e ∙ decides.1 s)

-- the laws of equality, and of the order of contents octets
pub bit_lists_equiv : IsEquivalence (pointwise beq)
bit_lists_equiv = lists_equiv bool_eq_equiv

pub bits_po : {K : Type 0} (contents : K → List ℕ) → ((v w : K) → same_bits (contents v) (contents w) ≡ pointwise nat_eq (contents v) (contents w)) → IsPartialOrder (λ v w. same_bits (contents v) (contents w)) (λ v w. Some (lex (contents v) (contents w)))
bits_po contents same =
    subst (λ E. IsPartialOrder E (λ v w. Some (lex (contents v) (contents w)))) (λ i v w. sym (same v w) i) (on_po contents texts_po)

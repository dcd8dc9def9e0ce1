-- Unused bits that are set to zero.
use Rattle.std.proofs.Common.{◌≡◌, ℕ, ◌+◌, ◌-◌, ◌*◌, ◌/◌, ◌%◌, ◌^◌, ◌<◌, ◌≤◌, nat_eq, true, List, ◌∷◌, length, slice_index_or, slice_set, sym, ap, ◌∙◌, arith, inl, inr, eq-eqb}
use Rattle.std.proofs.lemmas.Bool.{cases_eq}
use Rattle.std.proofs.lemmas.List.{get_or-set_same, get_or-set_other, length-set}
use Rattle.std.proofs.lemmas.Nat.{shl-shr, shr-shr, shr_split}
use Rattle.std.proofs.Math.Nat.{mul-mod_left, mod-eq_of_lt}
use Rattle.der_bits.specs.BitString.{bit_at_place, bits_from, bits, are_zero}
use Rattle.der_bits.specs.BitPlaceLaws.{bits_from-same}

-- the bits from bit c on stay
high_bits : (n c k : ℕ) → c ≤ k → n / 2 ^ c * 2 ^ c / 2 ^ k ≡ n / 2 ^ k
high_bits n c k h =
    let e : k ≡ c + (k - c) = omega (arith, h) in
    rw e (sym (shr-shr (n / 2 ^ c * 2 ^ c) c (k - c)) ∙ ap (λ m. m / 2 ^ (k - c)) (shl-shr (n / 2 ^ c) c) ∙ shr-shr n c (k - c))

module _ (octets : List ℕ) (count x : ℕ) (some : 0 < length octets) (fits : x < 256) (possible : count ≤ 7) (last : x ≡ slice_index_or octets (length octets - 1) 0) where
  abbrev cleared : List ℕ
  cleared = slice_set octets (length octets - 1) (x / 2 ^ count * 2 ^ count % 256)

  value : x / 2 ^ count * 2 ^ count % 256 ≡ x / 2 ^ count * 2 ^ count
  value = mod-eq_of_lt (let s = shr_split x count in omega (arith, s, fits))

  same_length : length cleared ≡ length octets
  same_length = length-set octets (length octets - 1) (x / 2 ^ count * 2 ^ count % 256)

  last_cleared : slice_index_or cleared (length octets - 1) 0 ≡ x / 2 ^ count * 2 ^ count
  last_cleared =
      get_or-set_same octets (length octets - 1) (x / 2 ^ count * 2 ^ count % 256) 0 (omega (arith, some)) ∙ value

  pub cleared_zero : are_zero count (slice_set octets (length octets - 1) (x / 2 ^ count * 2 ^ count % 256)) ≡ true
  cleared_zero =
      eq-eqb _ 0 (ap (λ n. slice_index_or cleared (n - 1) 0 % 2 ^ count) same_length ∙ ap (λ n. n % 2 ^ count) last_cleared ∙ mul-mod_left (x / 2 ^ count) (2 ^ count))

  place : (j : ℕ) → j < 8 * length octets - count → bit_at_place cleared j ≡ bit_at_place octets j
  place j h = elim (cases_eq (j / 8) (length octets - 1)) [
    | inl e ↦
        let k : count ≤ 7 - j % 8 = omega (arith, h, e, possible, some) in
        let here : slice_index_or cleared (j / 8) 0 ≡ x / 2 ^ count * 2 ^ count = rw e last_cleared in
        let there : slice_index_or octets (j / 8) 0 ≡ x = rw e (sym last) in
        ap (λ n. nat_eq (n / 2 ^ (7 - j % 8) % 2) 1) here ∙ ap (λ n. nat_eq (n % 2) 1) (high_bits x count (7 - j % 8) k) ∙ ap (λ n. nat_eq (n / 2 ^ (7 - j % 8) % 2) 1) (sym there)
    | inr e ↦
        ap (λ n. nat_eq (n / 2 ^ (7 - j % 8) % 2) 1) (get_or-set_other octets (length octets - 1) (j / 8) (x / 2 ^ count * 2 ^ count % 256) 0 e)
  ]

  pub cleared_bits : bits (count ∷ slice_set octets (length octets - 1) (x / 2 ^ count * 2 ^ count % 256)) ≡ bits (count ∷ octets)
  cleared_bits =
      ap (λ n. bits_from cleared 0 (8 * n - count)) same_length ∙ bits_from-same cleared octets 0 (8 * length octets - count) (λ j a b. place j (omega (arith, b)))

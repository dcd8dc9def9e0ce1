-- Bits at the end of octets that are 0.
use Rattle.std.proofs.Common.{◌≡◌, ℕ, ◌/◌, ◌%◌, ◌^◌, ◌<◌, ◌≤◌, sym, ap, ◌∙◌, arith, w8}
use Rattle.std.proofs.lemmas.Nat.{shr_split, pow_pos}
use Rattle.std.proofs.lemmas.Nat.Bits.{bit_at_cat_low, bit_at-zero, same_from_bits_below, bit_at-trailing_zeros}
use Rattle.std.proofs.Math.Nat.{mod-lt}
use Rattle.std.specs.Int.{bit_at, trailing_zeros}

-- a number whose lowest c bits are 0
low_zeros : (n c : ℕ) → ((i : ℕ) → i < c → bit_at n i ≡ 0) → n % 2 ^ c ≡ 0
low_zeros n c none =
    same_from_bits_below c (n % 2 ^ c) 0 (mod-lt n (pow_pos c)) (pow_pos c) (λ i small. sym (bit_at_cat_low (n / 2 ^ c) c (n % 2 ^ c) i small) ∙ ap (λ m. bit_at m i) (shr_split n c) ∙ none i small ∙ sym (bit_at-zero i))

-- the lowest bit of an octet that is 1
pub lowest_one : (n : ℕ) → 0 < n → n < 256 → (trailing_zeros w8 n ≤ 7) × (n % 2 ^ trailing_zeros w8 n ≡ 0) × (n / 2 ^ trailing_zeros w8 n % 2 ≡ 1)
lowest_one n some fits =
    let facts = bit_at-trailing_zeros w8 n some fits in
    (omega (arith, facts.0), low_zeros n (trailing_zeros w8 n) facts.2, facts.1)

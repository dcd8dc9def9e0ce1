-- Flags in order from the last to the first.
use Rattle.std.proofs.Common.{◌≡◌, ℕ, suc, ◌+◌, ◌*◌, ◌^◌, ◌-◌, ◌<◌, ◌≤◌, Bool, true, false, List, [], ◌∷◌, length, take, drop, get_or, sym, ap, subst, ◌∙◌, arith}
use Rattle.std.proofs.Math.Nat.{pow-le-pow_right, two-pow-succ}
use Rattle.std.proofs.Math.Seq.{take-length}
use Rattle.der_c.specs.Bits.{bit, bits_before}

-- `bits` is the number of the flags before `left`, and is less than 2 to the power of their count
abbrev pub HasBits : List Bool → List Bool → ℕ → Type 0
HasBits flags left bits = (length left ≤ length flags) × (length flags < 64 → (bits < 2 ^ (length flags - length left)) × (bits_before bits left ≡ bits_before 0 flags))

bit_below : (flag : Bool) → bit flag < 2
bit_below true = omega arith
bit_below false = omega arith

-- the bound after one more flag
more_bits : (n k : ℕ) (flag : Bool) → k < 63 → n < 2 ^ k → (bit flag + 2 * n < 2 ^ 64) × (bit flag + 2 * n < 2 ^ (k + 1))
more_bits n k flag few below =
    let one = bit_below flag in
    let positive : 0 < 2 = omega arith in
    let small : k ≤ 62 = omega arith in
    let most : 2 ^ k ≤ 2 ^ 62 = pow-le-pow_right positive small in
    let next : k + 1 ≡ suc k = omega arith in
    let up : 2 ^ (k + 1) ≡ 2 ^ k + 2 ^ k = ap (λ j. 2 ^ j) next ∙ two-pow-succ k in
    (omega arith, omega arith)

pub flag_taken : (flags left : List Bool) (n more : ℕ) (flag d : Bool) (others : List Bool) → HasBits flags left n → 1 ≤ length left → flag ≡ get_or left 0 d → others ≡ take (length left - 1) (drop 1 left) → (bit flag + 2 * n < 2 ^ 64 → more ≡ bit flag + 2 * n) → HasBits flags others more
flag_taken flags [] n more flag d others has some at o m = absurd (omega arith)
flag_taken flags (x ∷ xs) n more flag d others has some at o m =
    let count : length (x ∷ xs) - 1 ≡ length xs = omega arith in
    let rest : others ≡ xs = o ∙ ap (λ k. take k xs) count ∙ take-length xs in
    let fewer = has.0 in
    let same = ap length rest in
    let holds : length flags < 64 → (more < 2 ^ (length flags - length others)) × (bits_before more others ≡ bits_before 0 flags) = λ few.
    let before = has.1 few in
    let k = length flags - length (x ∷ xs) in
    let below : k < 63 = omega arith in
    let both = more_bits n k flag below before.0 in
    let is = m both.0 in
    let k_next : length flags - length others ≡ k + 1 = omega arith in (
      subst (λ j. more < 2 ^ j) (sym k_next) (subst (λ j. j < 2 ^ (k + 1)) (sym is) both.1),
      ap (λ l. bits_before more l) rest ∙ ap (λ j. bits_before j xs) (is ∙ ap (λ f. bit f + 2 * n) at) ∙ before.1,
    )
    in
    (omega arith, holds)

-- Truth values as the bits of a number.
use Rattle.std.specs.Prelude.{ℕ, ◌+◌, ◌*◌, List, [], ◌∷◌, Bool, true, false, map}
use Rattle.der_bits.specs.BitString as bit_string

abbrev pub bit : Bool → ℕ
bit true = 1
bit false = 0

-- the first flag as 1, the next as 2, then 4, and so on
abbrev pub bits : List Bool → ℕ
bits [] = 0
bits (flag ∷ flags) = bit flag + 2 * bits flags

-- the number of flags that are given from the last to the first, with the bits of `n` after them
abbrev pub bits_before : ℕ → List Bool → ℕ
bits_before n [] = n
bits_before n (flag ∷ flags) = bits_before (bit flag + 2 * n) flags

-- the bits 0 to 15 of a BIT STRING with these contents octets
abbrev pub named_flags : List ℕ → List Bool
named_flags contents = map (λ place. bit_string.bit contents place) (0 ∷ 1 ∷ 2 ∷ 3 ∷ 4 ∷ 5 ∷ 6 ∷ 7 ∷ 8 ∷ 9 ∷ 10 ∷ 11 ∷ 12 ∷ 13 ∷ 14 ∷ 15 ∷ [])

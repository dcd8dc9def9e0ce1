-- The length octets (X.690 8.1.3, 10.1).
use Rattle.std.specs.Prelude.{ℕ, ◌+◌, nat_lt, if◌then◌else◌, List, [], ◌∷◌, length}
use Rattle.std.specs.Int.Digits.{digits_of}

-- the length octets of n contents octets, in the fewest octets: n itself below 128, else 128 plus the count of the octets of n in base 256, and then these
unfoldable pub length_octets : ℕ → List ℕ
length_octets n = if nat_lt n 128 then n ∷ [] else (128 + length (digits_of 256 n)) ∷ digits_of 256 n

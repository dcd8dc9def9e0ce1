-- Numbers in decimal digits, an octet each: 30 for 0 to 39 for 9.
use Rattle.std.specs.Prelude.{ℕ, ◌+◌, ◌-◌, ◌*◌, ◌/◌, ◌%◌, ◌&&◌, Bool, List, [], ◌∷◌, Option, Some, None, if◌then◌else◌}
use Rattle.std.specs.Int.{is_in_range}

-- a number below 100, in two digits
unfoldable pub two_digits : ℕ → List ℕ
two_digits n = (48 + n / 10) ∷ (48 + n % 10) ∷ []

-- whether an octet is a digit
abbrev pub is_digit : ℕ → Bool
is_digit octet = is_in_range 48 57 octet

-- the number of two digits at the front, and the octets after them
unfoldable pub read_two_digits : List ℕ → Option (ℕ × List ℕ)
read_two_digits [] = None
read_two_digits (high ∷ []) = None
read_two_digits (high ∷ low ∷ others) =
    if is_digit high && is_digit low then Some ((high - 48) * 10 + (low - 48), others) else None

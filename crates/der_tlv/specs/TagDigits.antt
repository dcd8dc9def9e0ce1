-- The digits of a tag number of more than 30.
use Rattle.std.specs.Prelude.{ℕ, ◌+◌, ◌*◌, ◌%◌, ◌^◌, ◌==◌, ◌&&◌, ◌||◌, nat_lt, nat_le, if◌then◌else◌, List, map, Option, Some, None}
use Rattle.std.specs.Int.Digits.{digits_of}

-- digits with bit 8 set
abbrev pub mark_digits : List ℕ → List ℕ
mark_digits digits = map (λ d. 128 + d) digits

-- the octets before the last digit of a number in base 128, where n is the number that they write
abbrev pub leading_octets : ℕ → List ℕ
leading_octets n = mark_digits (digits_of 128 n)

-- A number with the digit of one more octet: none if the number exceeds 32 bits, begins with a zero digit or ends below 31.
abbrev pub with_digit : ℕ → ℕ → Option ℕ
with_digit n octet = if nat_le (2 ^ 25) n || ((n == 0) && (nat_lt octet 31 || (octet == 128))) then None else Some (n * 128 + octet % 128)

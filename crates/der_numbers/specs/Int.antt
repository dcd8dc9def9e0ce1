-- The value of an Int that a caller sees.
use Rattle.std.specs.Prelude.{ℕ, List}
use Rattle.der_numbers.specs.declared.int.Int.{Int}

-- its contents octets: the integer in the fewest octets of two's complement
abbrev pub contents_of : Int → List ℕ
contents_of number = number.octets.items

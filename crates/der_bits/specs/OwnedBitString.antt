-- The value of a BitString that a caller sees.
use Rattle.std.specs.Prelude.{ℕ, List, ◌∷◌}
use Rattle.der_bits.specs.declared.bit_string.BitString.{BitString}

-- its contents octets: the number of unused bits of the last octet, then the octets of the bits
abbrev pub contents_of : BitString → List ℕ
contents_of string = string.unused ∷ string.octets.items

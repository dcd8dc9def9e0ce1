-- The length of a string, by its contents octets, and the lengths that SIZE allows (X.680 51.5).
use Rattle.std.specs.Prelude.{ℕ, List, length, chars, nat_le, Bool, ◌&&◌}
use Rattle.der_bits.specs.BitString.{bit_count}

-- whether a length is one of `SIZE (least..greatest)`
abbrev pub in_sizes : ℕ → ℕ → ℕ → Bool
in_sizes least greatest size = nat_le least size && nat_le size greatest

-- `SIZE` of an OCTET STRING, and of a string whose characters have one octet each: the number of octets
abbrev pub size_in_octets : ℕ → ℕ → List ℕ → Bool
size_in_octets least greatest octets = in_sizes least greatest (length octets)

-- `SIZE` of a UTF8String: the number of characters
abbrev pub size_in_characters : ℕ → ℕ → List ℕ → Bool
size_in_characters least greatest octets = in_sizes least greatest (length (chars octets))

-- `SIZE` of a BIT STRING: the number of bits
abbrev pub size_in_bits : ℕ → ℕ → List ℕ → Bool
size_in_bits least greatest octets = in_sizes least greatest (bit_count octets)

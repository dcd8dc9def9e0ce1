-- The contents octets of INTEGER (X.690 8.3), over all whole numbers.
use Rattle.std.specs.Prelude.{◌≡◌, ◌+◌, ◌*◌, ◌≤◌, ◌⊎◌, ℕ, ◌<◌, ◌^◌, ◌-◌, Bool, false, cond, ◌&&◌, ◌||◌, ◌==◌, nat_lt, nat_le, List, [], ◌∷◌, map, length, slice_index, ℤ, pos, negsuc, ◌-ℤ◌}
use Rattle.std.specs.Int.Signed.{mag}
use Rattle.std.specs.Int.Digits.{digits_of, number_from_digits, AllBelowBase}

-- each octet is one of the 256 values that eight bits have
abbrev pub AreOctets : List ℕ → Type 0
AreOctets octets = AllBelowBase 256 octets

-- the big-endian number of octets: bit 8 of the first is the most significant (X.690 8.3.3)
abbrev pub big_endian_number : List ℕ → ℕ
big_endian_number octets = number_from_digits 256 octets

-- the big-endian number of octets with zeros after them, up to k octets
abbrev pub left_aligned : ℕ → List ℕ → ℕ
left_aligned k octets = big_endian_number octets * 256 ^ (k - length octets)

-- base-256 digits, with an octet 00 before them if there are none, or if bit 8 of the first is set
abbrev pub with_sign_octet : List ℕ → List ℕ
with_sign_octet [] = 0 ∷ []
with_sign_octet (digit ∷ digits) = cond (nat_lt digit 128) (digit ∷ digits) (0 ∷ digit ∷ digits)

-- the contents octets of a number that is not negative: the fewest with bit 8 of the first zero (X.690 8.3.2, 8.3.3)
unfoldable pub natural_contents : ℕ → List ℕ
natural_contents number = with_sign_octet (digits_of 256 number)

-- the octets with each bit inverted
abbrev pub complement_octets : List ℕ → List ℕ
complement_octets octets = map (λ octet. 255 - octet) octets

-- the octets with each bit inverted if the flag is set, else the octets themselves
abbrev pub complement_octets_if : Bool → List ℕ → List ℕ
complement_octets_if negative octets = cond negative (complement_octets octets) octets

-- the contents octets of an integer: its two's complement, in the fewest octets (X.690 8.3.2, 8.3.3)
unfoldable pub integer_contents : ℤ → List ℕ
integer_contents (pos number) = natural_contents number
integer_contents (negsuc number) = complement_octets (natural_contents number)

-- the integer whose two's complement the contents octets are (X.690 8.3.3)
abbrev pub twos_complement : List ℕ → ℤ
twos_complement octets = cond (nat_lt (slice_index octets 0) 128) (pos (big_endian_number octets)) (pos (big_endian_number octets) -ℤ pos (256 ^ length octets))

-- the bits of the first octet and bit 8 of the second are all zeros or all ones (X.690 8.3.2)
abbrev pub is_redundant : List ℕ → Bool
is_redundant [] = false
is_redundant (first ∷ []) = false
is_redundant (first ∷ second ∷ rest) = (first == 0 && nat_lt second 128) || (first == 255 && nat_le 128 second)

-- from -2^(8w - 1) to 2^(8w - 1) - 1: the integers that w octets of two's complement represent
abbrev pub FitsSignedWidth : ℕ → ℤ → Type 0
FitsSignedWidth width integer = mag integer < 2 ^ (8 * width - 1)

-- from 0 to 256^w - 1: the numbers that w octets represent
abbrev pub FitsUnsignedWidth : ℕ → ℕ → Type 0
FitsUnsignedWidth width number = number < 256 ^ width

-- at most w contents octets, or one more that is 00: those of a number below 256^w
abbrev pub FitsUnsignedOctets : ℕ → List ℕ → Type 0
FitsUnsignedOctets width octets = (length octets ≤ width) ⊎ ((slice_index octets 0 ≡ 0) × (length octets ≡ width + 1))

-- the test for octets that fit
abbrev pub fits_unsigned : ℕ → List ℕ → Bool
fits_unsigned width octets = nat_le (length octets) width || (slice_index octets 0 == 0 && length octets == width + 1)

-- The contents octets of a BIT STRING (X.690 8.6.2): the number of unused bits of the last octet, then the octets of the bits.
use Rattle.std.specs.Prelude.{◌≡◌, ◌≢◌, ℕ, ◌+◌, ◌-◌, ◌*◌, ◌/◌, ◌%◌, ◌^◌, ◌<◌, ◌≤◌, zero, suc, nat_eq, nat_le, Bool, true, false, ◌&&◌, if◌then◌else◌, List, [], ◌∷◌, length, slice_index_or, ◌⊎◌, Result, Ok, Err}
use Rattle.der_tlv.specs.declared.error.ErrorKind.{ErrorKind}
use Rattle.der_tlv.specs.declared.error.ErrorKind.TheVariants as kinds
use Rattle.der_tlv.specs.declared.error.Error.{Error}
use Rattle.der_tlv.specs.declared.tag.Tag.TheVariants as tags
use Rattle.std.specs.Bool.{beq}
use Rattle.std.specs.Cmp.Lexicographic.{pointwise}
use Rattle.der_elem.specs.Parsing.{ContentsParse}

-- numbers that are all octets
abbrev pub AreOctets : List ℕ → Type 0
AreOctets octets = (k : ℕ) → slice_index_or octets k 0 < 2 ^ 8

-- the number of unused bits, which is the first contents octet (8.6.2.2)
abbrev pub unused_count : List ℕ → ℕ
unused_count [] = 0
unused_count (count ∷ octets) = count

-- the octets of the bits (8.6.2.1)
abbrev pub bit_octets : List ℕ → List ℕ
bit_octets [] = []
bit_octets (count ∷ octets) = octets

-- the number of bits: eight for each octet, without the unused ones
abbrev pub bit_count : List ℕ → ℕ
bit_count contents = 8 * length (bit_octets contents) - unused_count contents

-- bit i of octets: bit 0 is the highest of the first octet, bit 7 its lowest
abbrev pub bit_at_place : List ℕ → ℕ → Bool
bit_at_place octets i = nat_eq (slice_index_or octets (i / 8) 0 / 2 ^ (7 - i % 8) % 2) 1

-- n bits of octets, from bit i on
abbrev pub bits_from : List ℕ → ℕ → ℕ → List Bool
bits_from octets i zero = []
bits_from octets i (suc n) = bit_at_place octets i ∷ bits_from octets (i + 1) n

-- bit i of contents octets
abbrev pub bit : List ℕ → ℕ → Bool
bit contents i = bit_at_place (bit_octets contents) i

-- the list of bits, each once and in order
abbrev pub bits : List ℕ → List Bool
bits contents = bits_from (bit_octets contents) 0 (bit_count contents)

-- whether the lists of bits are equal
abbrev pub same_bits : List ℕ → List ℕ → Bool
same_bits contents others = pointwise beq (bits contents) (bits others)

-- whether this number of bits of the last octet can be unused: at most 7, and none if there is no octet (8.6.2.2, 8.6.2.3)
abbrev pub can_be_unused : ℕ → List ℕ → Bool
can_be_unused count [] = nat_eq count 0
can_be_unused count (octet ∷ octets) = nat_le count 7

-- whether this number of the lowest bits of the last octet are zero (11.2.1)
abbrev pub are_zero : ℕ → List ℕ → Bool
are_zero count octets = nat_eq (slice_index_or octets (length octets - 1) 0 % 2 ^ count) 0

-- whether these are a number of unused bits and the octets of a bit string
abbrev pub is_bit_string : ℕ → List ℕ → Bool
is_bit_string count octets = can_be_unused count octets && are_zero count octets

-- the result for a number of unused bits and octets: an impossible number (13), then an unused bit that is not zero (8)
abbrev pub parse_bits : ℕ → List ℕ → Result (List ℕ) ErrorKind
parse_bits count octets =
    if can_be_unused count octets then (if are_zero count octets then Ok (count ∷ octets) else Err (kinds.Noncanonical tags.BitString))
    else Err (kinds.Value tags.BitString)

-- the result for contents octets: none (9), then the errors of the number of unused bits and the octets
abbrev pub bits_or_fault : List ℕ → Result (List ℕ) ErrorKind
bits_or_fault [] = Err kinds.Overflow
bits_or_fault (count ∷ octets) = parse_bits count octets

abbrev pub parse_bit_string : ContentsParse
parse_bit_string rules p contents = bits_or_fault contents

-- a bit string with these contents octets, or their first error
abbrev pub ParsedAs : {T : Type 0} → (T → List ℕ) → List ℕ → Result T ErrorKind → Type 0
ParsedAs contents octets (Ok v) = (contents v ≡ octets) × (bits_or_fault octets ≡ Ok octets)
ParsedAs contents octets (Err k) = bits_or_fault octets ≡ Err k

-- A bit string of these, or (13) for an impossible number of unused bits or an unused bit that is not zero, or (7) for more octets than a length can count.
abbrev pub KeepsBits : {T : Type 0} → (T → List ℕ) → ℕ → List ℕ → Result T Error → Type 0
KeepsBits contents count octets (Ok v) = (contents v ≡ count ∷ octets) × (is_bit_string count octets ≡ true) × (length octets < 2 ^ 32)
KeepsBits contents count octets (Err e) =
    ((e.kind ≡ kinds.Value tags.BitString) × (is_bit_string count octets ≡ false)) ⊎ ((e.kind ≡ kinds.Length tags.BitString) × (is_bit_string count octets ≡ true) × (2 ^ 32 ≤ length octets))

-- a bit string with the bits of these octets, without the last `count` bits
pub record HasBits (contents : List ℕ) (count : ℕ) (octets : List ℕ) : Type 0 where
  pub unused : unused_count contents ≡ count
  pub same_length : length (bit_octets contents) ≡ length octets
  pub same_bits : bits contents ≡ bits (count ∷ octets)
  pub zero : are_zero count (bit_octets contents) ≡ true

-- A bit string with these bits, or (13) for an impossible number of unused bits, or (7) for more octets than a length can count.
abbrev pub KeepsCleared : {T : Type 0} → (T → List ℕ) → ℕ → List ℕ → Result T Error → Type 0
KeepsCleared contents count octets (Ok v) = HasBits (contents v) count octets × (can_be_unused count octets ≡ true) × (length octets < 2 ^ 32)
KeepsCleared contents count octets (Err e) =
    ((e.kind ≡ kinds.Value tags.BitString) × (can_be_unused count octets ≡ false)) ⊎ ((e.kind ≡ kinds.Length tags.BitString) × (can_be_unused count octets ≡ true) × (2 ^ 32 ≤ length octets))

-- A bit string with all bits of these octets, or (7) for more octets than a length can count.
abbrev pub KeepsAll : {T : Type 0} → (T → List ℕ) → List ℕ → Result T Error → Type 0
KeepsAll contents octets (Ok v) = (contents v ≡ 0 ∷ octets) × (length octets < 2 ^ 32)
KeepsAll contents octets (Err e) = (e.kind ≡ kinds.Length tags.BitString) × (2 ^ 32 ≤ length octets)

-- The octets if there are n of them and no unused bits; else (13) for unused bits, or (7) for another number of octets.
abbrev pub FillsArray : ℕ → List ℕ → Result (List ℕ) Error → Type 0
FillsArray n contents (Ok octets) = contents ≡ 0 ∷ octets
FillsArray n contents (Err e) =
    ((e.kind ≡ kinds.Value tags.BitString) × (unused_count contents ≢ 0)) ⊎ ((e.kind ≡ kinds.Length tags.BitString) × (unused_count contents ≡ 0) × (length (bit_octets contents) ≢ n))

-- The value of a BitStringRef that a caller sees, and the octets that are read as one.
use Rattle.std.specs.Prelude.{ℕ, List, ◌∷◌, Result}
use Rattle.der_tlv.specs.declared.error.Error.{Error}
use Rattle.der_tlv.specs.declared.tag.Tag.{Tag}
use Rattle.der_tlv.specs.declared.tag.Tag.TheVariants as tags
use Rattle.der_opaque.specs.DecodingAs.{DecodesOwnAs}
use Rattle.der_bits.specs.declared.bit_string_ref.BitStringRef.{BitStringRef}
use Rattle.der_bits.specs.BitString.{parse_bit_string}

-- its contents octets: the number of unused bits of the last octet, then the octets of the bits
abbrev pub contents_of : BitStringRef → List ℕ
contents_of string = string.unused ∷ string.octets.now

-- the result of decoding contents octets after a tag as a BIT STRING
abbrev pub DecodesBitString : Tag → List ℕ → Result BitStringRef Error → Type 0
DecodesBitString = DecodesOwnAs tags.BitString contents_of (λ string. Unit {0}) parse_bit_string

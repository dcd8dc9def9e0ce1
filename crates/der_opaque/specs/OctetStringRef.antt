-- The value of an OctetStringRef that a caller sees, and the octets that are read as one.
use Rattle.std.specs.Prelude.{ℕ, List, Result}
use Rattle.der_tlv.specs.declared.error.Error.{Error}
use Rattle.der_tlv.specs.declared.tag.Tag.{Tag}
use Rattle.der_tlv.specs.declared.tag.Tag.TheVariants as tags
use Rattle.der_opaque.specs.declared.octet_string_ref.OctetStringRef.{OctetStringRef}
use Rattle.der_opaque.specs.DecodingAs.{DecodesOwnAs}
use Rattle.der_opaque.specs.Opaque.{parse_octets}

-- the octets of the string
abbrev pub octets_of : OctetStringRef → List ℕ
octets_of string = string.octets.now

-- the result of decoding contents octets after a tag as an OCTET STRING
abbrev pub DecodesOctetString : Tag → List ℕ → Result OctetStringRef Error → Type 0
DecodesOctetString = DecodesOwnAs tags.OctetString octets_of (λ string. Unit {0}) parse_octets

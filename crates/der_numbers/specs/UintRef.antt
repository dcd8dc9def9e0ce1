-- The value of a UintRef that a caller sees, and the octets that are read as one.
use Rattle.std.specs.Prelude.{ℕ, List, Result}
use Rattle.der_tlv.specs.declared.error.Error.{Error}
use Rattle.der_tlv.specs.declared.tag.Tag.{Tag}
use Rattle.der_tlv.specs.declared.tag.Tag.TheVariants as tags
use Rattle.der_elem.specs.Integer.{with_sign_octet}
use Rattle.der_numbers.specs.declared.uint_ref.UintRef.{UintRef}
use Rattle.der_opaque.specs.DecodingAs.{DecodesOwnAs}
use Rattle.der_numbers.specs.AnyLength.{parse_natural}

-- its contents octets: the number in the fewest octets, after 00 if the first is 80 or more
abbrev pub contents_of : UintRef → List ℕ
contents_of number = with_sign_octet number.octets.now

-- the result of decoding contents octets after a tag as an INTEGER that is not negative
abbrev pub DecodesNatural : Tag → List ℕ → Result UintRef Error → Type 0
DecodesNatural = DecodesOwnAs tags.Integer contents_of (λ number. Unit {0}) parse_natural

-- The value of an IntRef that a caller sees, and the octets that are read as one.
use Rattle.std.specs.Prelude.{ℕ, List, Result}
use Rattle.der_tlv.specs.declared.error.Error.{Error}
use Rattle.der_tlv.specs.declared.tag.Tag.{Tag}
use Rattle.der_tlv.specs.declared.tag.Tag.TheVariants as tags
use Rattle.der_numbers.specs.declared.int_ref.IntRef.{IntRef}
use Rattle.der_opaque.specs.DecodingAs.{DecodesOwnAs}
use Rattle.der_numbers.specs.AnyLength.{parse_integer}

-- its contents octets: the integer in the fewest octets of two's complement
abbrev pub contents_of : IntRef → List ℕ
contents_of number = number.octets.now

-- the result of decoding contents octets after a tag as an INTEGER
abbrev pub DecodesInteger : Tag → List ℕ → Result IntRef Error → Type 0
DecodesInteger = DecodesOwnAs tags.Integer contents_of (λ number. Unit {0}) parse_integer

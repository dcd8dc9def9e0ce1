-- The results of reading contents octets after a tag as the built-in types.
use Rattle.std.specs.Prelude.{ℕ, ℤ, Bool, List, [], Result}
use Rattle.der_tlv.specs.declared.error.Error.{Error}
use Rattle.der_tlv.specs.declared.tag.Tag.{Tag}
use Rattle.der_tlv.specs.declared.tag.Tag.TheVariants as tags
use Rattle.der_elem.specs.Boolean.{boolean_contents, parse_boolean}
use Rattle.der_elem.specs.Null.{parse_null}
use Rattle.der_elem.specs.Integer.{integer_contents, natural_contents, FitsSignedWidth, FitsUnsignedWidth}
use Rattle.der_elem.specs.IntegerReading.{parse_signed, parse_unsigned}
use Rattle.der_opaque.specs.DecodingAs.{DecodesOwnAs}

-- as a BOOLEAN
abbrev pub DecodesBoolean : Tag → List ℕ → Result Bool Error → Type 0
DecodesBoolean = DecodesOwnAs tags.Boolean boolean_contents (λ b. Unit {0}) parse_boolean

-- as the one value of a type for NULL
abbrev pub DecodesNull : {T : Type 0} → Tag → List ℕ → Result T Error → Type 0
DecodesNull = DecodesOwnAs tags.Null (λ v. []) (λ v. Unit {0}) parse_null

-- as an INTEGER of at most `width` octets in two's complement
abbrev pub DecodesSigned : (width : ℕ) → Tag → List ℕ → Result ℤ Error → Type 0
DecodesSigned width = DecodesOwnAs tags.Integer integer_contents (FitsSignedWidth width) (parse_signed width)

-- as an INTEGER that is not negative and has at most `width` octets
abbrev pub DecodesUnsigned : (width : ℕ) → Tag → List ℕ → Result ℕ Error → Type 0
DecodesUnsigned width = DecodesOwnAs tags.Integer natural_contents (FitsUnsignedWidth width) (parse_unsigned width)

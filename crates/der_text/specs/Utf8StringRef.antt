-- The octets of a Utf8StringRef, and the octets that are read as one.
use Rattle.std.specs.Prelude.{ℕ, List, Result}
use Rattle.der_tlv.specs.declared.error.Error.{Error}
use Rattle.der_tlv.specs.declared.tag.Tag.{Tag}
use Rattle.der_tlv.specs.declared.tag.Tag.TheVariants as tags
use Rattle.der_elem.specs.Utf8String.{parse_utf8}
use Rattle.der_opaque.specs.DecodingAs.{DecodesOwnAs}
use Rattle.der_text.specs.declared.utf8_string.Utf8StringRef.{Utf8StringRef}

-- the octets of the text, in UTF-8
abbrev pub octets_of : Utf8StringRef → List ℕ
octets_of string = string.text.now

-- the results of decoding contents octets after a tag as a UTF8String
abbrev pub DecodesText : Tag → List ℕ → Result Utf8StringRef Error → Type 0
DecodesText = DecodesOwnAs tags.Utf8String octets_of (λ string. Unit {0}) parse_utf8

-- Encodings with any tag, and the octets that are read as them.
use Rattle.std.specs.Prelude.{◌≡◌, ℕ, ◌+◌, List, drop, Result, Ok, Err}
use Rattle.der_tlv.specs.declared.error.ErrorKind.{ErrorKind}
use Rattle.der_tlv.specs.declared.encoding_rules.EncodingRules.{EncodingRules}
use Rattle.der_tlv.specs.declared.header.Header.{Header}
use Rattle.der_tlv.specs.declared.tag.Tag.{Tag}
use Rattle.der_tlv.specs.TagParts.{IsTag}
use Rattle.der_tlv.specs.HeaderOctets.{tlv}
use Rattle.der_tlv.specs.HeaderReading.{read_header}
use Rattle.der_elem.specs.Parsing.{Parse, parse_contents}
use Rattle.der_opaque.specs.Opaque.{parse_octets}

-- an encoding with the tag and the contents octets of the value
abbrev pub accepts_any : {T : Type 0} → (T → Tag) → (T → List ℕ) → EncodingRules → T → List ℕ → Type 0
accepts_any tag_of contents rules v octets = IsTag (tag_of v) × (octets ≡ tlv (tag_of v) (contents v))

-- an encoding, after its header is parsed
abbrev pub parse_after_header : EncodingRules → ℕ → List ℕ → Result (ℕ × Header) ErrorKind → Result (ℕ × List ℕ) ErrorKind
parse_after_header rules p octets (Err k) = Err k
parse_after_header rules p octets (Ok (count, h)) = parse_contents h.tag parse_octets rules count (p + count) h.length (drop count octets)

-- An encoding with any tag: the errors of the header, then contents octets that are longer than what is left (2, 9).
unfoldable pub parse_any : Parse
parse_any rules p octets = parse_after_header rules p octets (read_header p octets)

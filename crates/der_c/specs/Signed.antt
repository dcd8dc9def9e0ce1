-- The octets that a signature covers (RFC 5280 4.1.1.3): the encoding of the first field of a message.
use Rattle.std.specs.Prelude.{◌≡◌, ℕ, ◌++◌, List, length}
use Rattle.der_tlv.specs.declared.tag.Tag.{Tag}
use Rattle.der_tlv.specs.HeaderOctets.{header_octets, tlv}
use Rattle.der_tlv.specs.TagParts.{IsTag}
use Rattle.der_elem.specs.Accepting.{Fits}
use Rattle.der_places.specs.declared.place.Place.{Place}
use Rattle.der_places.specs.Walking.{IsEncoding}

-- the byte range of the first encoding in the contents octets
abbrev pub HoldsFirst : List ℕ → Place → Type 0
HoldsFirst octets place = (tag : Tag) (first others : List ℕ) → IsTag tag → IsEncoding first → octets ≡ tlv tag (first ++ others) → Fits octets → (place.offset ≡ length (header_octets tag (length (first ++ others)))) × (place.length ≡ length first)

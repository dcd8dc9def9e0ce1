-- The contents octets within an explicit tag, and those of a BIT STRING.
use Rattle.std.specs.Prelude.{◌≡◌, ℕ, ◌+◌, ◌∷◌, List, length, if◌then◌else◌, ◌==◌}
use Rattle.der_tlv.specs.HeaderOctets.{header_octets}
use Rattle.der_places.specs.Walking.{IsEncoding, StandAt}
use Rattle.der_places.specs.declared.place.Place.{Place}

-- the byte range of the contents octets of an encoding that is the contents octets of another, as after an explicit tag (X.690 8.14)
abbrev pub HoldsInner : List ℕ → Place → Place → Type 0
HoldsInner octets place contents = (own : List ℕ) (e : IsEncoding own) (inner : IsEncoding e.contents) → StandAt octets place.offset own → place.length ≡ length own
    → (contents.offset ≡ place.offset + length (header_octets e.tag (length e.contents)) + length (header_octets inner.tag (length inner.contents)))
    × (contents.length ≡ length inner.contents)

-- the byte range of the octets of the bits of a BIT STRING: those after the first of the contents octets, which is the number of unused bits (X.690 8.6.2); none if bits are unused
abbrev pub HoldsBits : List ℕ → Place → Place → Type 0
HoldsBits octets place bits = (own : List ℕ) (e : IsEncoding own) (unused : ℕ) (others : List ℕ) → e.contents ≡ unused ∷ others → StandAt octets place.offset own → place.length ≡ length own
    → (bits.offset ≡ place.offset + length (header_octets e.tag (length e.contents)) + 1)
    × (bits.length ≡ (if unused == 0 then length others else 0))

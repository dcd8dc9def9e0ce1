-- From one field to the next, by the headers of their encodings.
use Rattle.std.specs.Prelude.{◌≡◌, ℕ, ◌+◌, ◌++◌, List, [], ◌∷◌, Bool, true, false, length, Option, Some}
use Rattle.der_tlv.specs.declared.header.Header.{Header}
use Rattle.der_tlv.specs.declared.tag.Tag.{Tag}
use Rattle.der_tlv.specs.HeaderOctets.{header_octets, tlv}
use Rattle.der_tlv.specs.HeaderReading.{header}
use Rattle.der_tlv.specs.TagParts.{IsTag}
use Rattle.der_elem.specs.Accepting.{Fits}
use Rattle.der_places.specs.declared.place.Place.{Place}
use Rattle.der_places.specs.declared.walk.Sizes.{Sizes}

-- octets are at an offset, and the number of all octets is one that a length can count
pub record StandAt (octets : List ℕ) (offset : ℕ) (own : List ℕ) : Type 0 where
  pub before : List ℕ
  pub after : List ℕ
  pub octets_are : octets ≡ before ++ (own ++ after)
  pub offset_is : length before ≡ offset
  pub fits : Fits octets

-- an encoding: a tag, its length, and as many contents octets
pub record IsEncoding (octets : List ℕ) : Type 0 where
  pub tag : Tag
  pub contents : List ℕ
  pub octets_are : octets ≡ tlv tag contents
  pub is_tag : IsTag tag

-- the octets of a field: an encoding if it is present, and none if it is absent
abbrev pub IsField : Bool → List ℕ → Type 0
IsField true octets = IsEncoding octets
IsField false octets = octets ≡ []

-- the header of the encoding at an offset
abbrev pub FindsHeader : List ℕ → ℕ → Option Header → Type 0
FindsHeader octets offset found = (own : List ℕ) (e : IsEncoding own) → StandAt octets offset own → found ≡ Some (header e.tag (length e.contents))

-- the number of octets in the header of the encoding at an offset, and in its contents
abbrev pub HasSizes : List ℕ → ℕ → Sizes → Type 0
HasSizes octets offset sizes = (own : List ℕ) (e : IsEncoding own) → StandAt octets offset own → (sizes.header ≡ length (header_octets e.tag (length e.contents))) × (sizes.contents ≡ length e.contents)

-- the number of octets in the encoding at an offset
abbrev pub Measures : List ℕ → ℕ → ℕ → Type 0
Measures octets offset count = (own : List ℕ) → IsEncoding own → StandAt octets offset own → count ≡ length own

-- the empty byte range after the header of the encoding at an offset
abbrev pub EntersContents : List ℕ → ℕ → Place → Type 0
EntersContents octets offset place = (own : List ℕ) (e : IsEncoding own) → StandAt octets offset own → (place.offset ≡ offset + length (header_octets e.tag (length e.contents))) × (place.length ≡ 0)

-- the byte range of the contents octets of the encoding at a byte range
abbrev pub HoldsContents : List ℕ → Place → Place → Type 0
HoldsContents octets place contents = (own : List ℕ) (e : IsEncoding own) → StandAt octets place.offset own → place.length ≡ length own → (contents.offset ≡ place.offset + length (header_octets e.tag (length e.contents))) × (contents.length ≡ length e.contents)

-- the byte range of the field after another byte range
abbrev pub Follows : List ℕ → Place → Bool → Place → Type 0
Follows octets last is_there place = (own : List ℕ) → IsField is_there own → StandAt octets (last.offset + last.length) own → (place.offset ≡ last.offset + last.length) × (place.length ≡ length own)

-- the byte ranges of fields, each after the one before it, by whether each is present
abbrev pub Walked : List ℕ → Place → List Bool → List Place → Type 0
Walked octets last [] places = places ≡ []
Walked octets last (is_there ∷ others) [] = ⊥
Walked octets last (is_there ∷ others) (place ∷ places) = Follows octets last is_there place × Walked octets place others places

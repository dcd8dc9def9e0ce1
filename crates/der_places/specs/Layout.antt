-- The byte ranges of the fields of a message: each field begins where the one before it ends.
use Rattle.std.specs.Prelude.{◌≡◌, ℕ, ◌+◌, ◌++◌, List, [], ◌∷◌, Bool, true, false, not, length, Option, Some, None}
use Rattle.der_tlv.specs.declared.tag.Tag.{Tag}
use Rattle.der_tlv.specs.HeaderOctets.{tlv}
use Rattle.der_tlv.specs.TagParts.{IsTag}
use Rattle.der_fields.specs.declared.end.End.{End}
use Rattle.der_fields.specs.declared.explicit.ExplicitIn.{ExplicitIn}
use Rattle.der_fields.specs.declared.field.Field.{Field}
use Rattle.der_fields.specs.declared.implicit.ImplicitIn.{ImplicitIn}
use Rattle.der_places.specs.declared.place.Place.{Place}
use Rattle.der_places.specs.Walking.{IsField, StandAt, HoldsContents}

-- the fields of a message in their order: whether each is present, and the octets from which it is read
pub data Layout : Type 1 where
  no_more : Layout
  part : Bool → (List ℕ → Type 0) → Layout → Layout

-- a field that is always present, one that may be absent, and one that is absent if it has its default
abbrev pub field : (List ℕ → Type 0) → Layout → Layout
field reads others = part true reads others

abbrev pub is_there : {T : Type 0} → Option T → Bool
is_there None = false
is_there (Some v) = true

abbrev pub reads_optional : {T : Type 0} → (T → List ℕ → Type 0) → Option T → List ℕ → Type 0
reads_optional reads None octets = octets ≡ []
reads_optional reads (Some v) octets = reads v octets

abbrev pub optional : {T : Type 0} → (T → List ℕ → Type 0) → Option T → Layout → Layout
optional reads o others = part (is_there o) (reads_optional reads o) others

abbrev pub reads_unless : Bool → (List ℕ → Type 0) → List ℕ → Type 0
reads_unless true reads octets = octets ≡ []
reads_unless false reads octets = reads octets

abbrev pub unless : Bool → (List ℕ → Type 0) → Layout → Layout
unless is_default reads others = part (not is_default) (reads_unless is_default reads) others

-- a value after an explicit tag, and one after an implicit tag
abbrev pub explicit : {T : Type 0} {tag_class number : ℕ} → T → ExplicitIn (Field T End) tag_class number
explicit v = record { fields = record { first = v; rest = record {} } }

abbrev pub implicit : {T : Type 0} {tag_class number : ℕ} → T → ImplicitIn T tag_class number
implicit v = record { value = v }

-- whether each field is present
abbrev pub presence : Layout → List Bool
presence no_more = []
presence (part there reads others) = there ∷ presence others

-- a field at the front, and the others after it
pub record Front (there : Bool) (reads others : List ℕ → Type 0) (octets : List ℕ) : Type 0 where
  pub front : List ℕ
  pub behind : List ℕ
  pub octets_are : octets ≡ front ++ behind
  pub is_field : IsField there front
  pub read : reads front
  pub rest : others behind

-- the octets are these fields, one after another
abbrev pub AreFields : Layout → List ℕ → Type 0
AreFields no_more octets = octets ≡ []
AreFields (part there reads others) octets = Front there reads (AreFields others) octets

-- the octets are one encoding, whose contents octets are these fields
pub record Encodes (fields : Layout) (octets : List ℕ) : Type 0 where
  pub tag : Tag
  pub contents : List ℕ
  pub octets_are : octets ≡ tlv tag contents
  pub is_tag : IsTag tag
  pub are_fields : AreFields fields contents

-- the field at the front is at this byte range, after `before` octets, and is read from it; the others begin where it ends
pub record Stands (reads : List ℕ → Type 0) (before : ℕ) (place : Place) (others : List ℕ → Type 0) (octets : List ℕ) : Type 0 where
  pub front : List ℕ
  pub behind : List ℕ
  pub octets_are : octets ≡ front ++ behind
  pub offset_is : place.offset ≡ before
  pub length_is : place.length ≡ length front
  pub read : reads front
  pub rest : others behind

-- the octets at an offset are these fields, at these byte ranges
abbrev pub Laid : Layout → ℕ → List Place → List ℕ → Type 0
Laid no_more before places octets = (places ≡ []) × (octets ≡ [])
Laid (part there reads others) before [] octets = ⊥
Laid (part there reads others) before (place ∷ places) octets = Stands reads before place (Laid others (place.offset + place.length) places) octets

-- the octets at an offset are a header, and then these fields at these byte ranges
pub record LaidOut (fields : Layout) (before : ℕ) (places : List Place) (octets : List ℕ) : Type 0 where
  pub header : List ℕ
  pub contents : List ℕ
  pub octets_are : octets ≡ header ++ contents
  pub laid : Laid fields (before + length header) places contents

-- an encoding is at a byte range, and its fields are at these byte ranges
pub record LaidAt (fields : Layout) (octets : List ℕ) (place : Place) (places : List Place) : Type 0 where
  pub own : List ℕ
  pub stands : StandAt octets place.offset own
  pub length_is : place.length ≡ length own
  pub laid : LaidOut fields place.offset places own

-- the contents octets of the encoding at a byte range are an encoding, and its fields are at these byte ranges, as within an explicit tag
pub record LaidInside (fields : Layout) (octets : List ℕ) (outer : Place) (places : List Place) : Type 0 where
  pub inner : Place
  pub within : HoldsContents octets outer inner
  pub laid : LaidAt fields octets inner places

-- each byte range is empty
abbrev pub Nowhere : List Place → Type 0
Nowhere [] = Unit {0}
Nowhere (place ∷ places) = (place.length ≡ 0) × Nowhere places

-- `LaidInside` for a value that may be absent
abbrev pub LaidInsideIfThere : {T : Type 0} → (T → Layout) → List ℕ → Place → List Place → Option T → Type 0
LaidInsideIfThere fields octets outer places None = Nowhere places
LaidInsideIfThere fields octets outer places (Some v) = LaidInside (fields v) octets outer places

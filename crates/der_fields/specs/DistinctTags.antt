-- Tags that distinguish the fields of a SEQUENCE: a field that may be absent has none of the tags of the fields that may follow it (X.680 25.6).
use Rattle.std.specs.Prelude.{List, [], ◌∷◌, Bool, true, false, ◌&&◌, ◌||◌, not, if◌then◌else◌, Option, Some, None}
use Rattle.der_tlv.specs.declared.tag.Tag.{Tag}
use Rattle.der_elem.specs.KnownTags.{may_be, known_of_both}

-- none of these tags may be one of the known ones
abbrev pub none_may_be : Option (List Tag) → List Tag → Bool
none_may_be known [] = true
none_may_be known (t ∷ tags) = not (may_be known t) && none_may_be known tags

-- whether the tags of a field are different from all tags that follow it
abbrev pub are_distinct : Option (List Tag) → Option (List Tag) → Bool
are_distinct known None = false
are_distinct known (Some following) = none_may_be known following

-- the tags that a field and the fields after it may begin with
abbrev pub first_known : Bool → Option (List Tag) → Option (List Tag) → Option (List Tag)
first_known may_be_absent known following = if may_be_absent then known_of_both known following else known

-- whether a field is distinguished from the fields after it by its tags, or is always present
abbrev pub is_distinguished : Bool → Option (List Tag) → Option (List Tag) → Bool
is_distinguished may_be_absent known following = not may_be_absent || are_distinct known following

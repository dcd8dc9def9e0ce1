-- The tags of a type, if they are known before any value. A tag is a class and a number (X.680 8.1), so the same tag precedes a primitive value and a constructed value.
use Rattle.std.specs.Prelude.{List, [], ◌∷◌, ◌++◌, Bool, true, false, ◌||◌, Option, Some, None}
use Rattle.der_tlv.specs.declared.tag.Tag.{Tag}
use Rattle.der_tlv.specs.TagParts.{class_of, number_of}
use Rattle.der_tlv.specs.TagMatching.{has_number}

-- whether a tag is one of these
abbrev pub is_one_of : List Tag → Tag → Bool
is_one_of [] t = false
is_one_of (u ∷ tags) t = has_number (class_of u) (number_of u) t || is_one_of tags t

-- whether a tag may be one of these; if none are known, any tag may
abbrev pub may_be : Option (List Tag) → Tag → Bool
may_be None t = true
may_be (Some tags) t = is_one_of tags t

-- the tags of two types
abbrev pub known_of_both : Option (List Tag) → Option (List Tag) → Option (List Tag)
known_of_both None known = None
known_of_both (Some tags) None = None
known_of_both (Some tags) (Some others) = Some (tags ++ others)

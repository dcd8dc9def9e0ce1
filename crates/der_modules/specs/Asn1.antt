-- The words of ASN.1 (X.680), each as the parse of the octets of its type (X.690): the grammar of a module is written in them.
use Rattle.std.specs.Prelude.{◌≡◌, ℕ, List, [], ◌∷◌, ◌++◌, Bool, true, ◌||◌, Option, Some, None, ℤ, refl}
use Rattle.std.specs.Option.{option_map}
use Rattle.der_tlv.specs.declared.tag.Tag.{Tag}
use Rattle.der_tlv.specs.declared.tag.Tag.TheVariants as tags
use Rattle.der_tlv.specs.Identifier.{same_identifier}
use Rattle.der_tlv.specs.HeaderOctets.{tlv}
use Rattle.der_tlv.specs.TagParts.{is_constructed}
use Rattle.der_elem.specs.Items.{parse_items}
use Rattle.der_elem.specs.Options.{encoding_option, parse_option}
use Rattle.der_elem.specs.Parsing.{Parse, ContentsParse, parse_tagged}
use Rattle.der_fields.specs.Alternatives.{parse_one}
use Rattle.der_fields.specs.Defaults.{is_default, octets_unless, parse_default}
use Rattle.der_fields.specs.FieldLists.{parse_field, parse_end}
use Rattle.der_fields.specs.MarkerTags.{marker_tag}
use Rattle.der_nest.specs.KeptFormat.{parse_kept}
use Rattle.der_nest.specs.NonEmpty.{parse_some}
use Rattle.der_nest.specs.Sets.{parse_set}
use Rattle.der_numbers.specs.Enumerated.{parse_named}

-- a type: one tag, and the parse of the contents octets after it; the only alternative of a CHOICE, with these two; or any of some tags, and the parse of whole encodings
pub data Grammar : Type 0 where
  one : Tag → ContentsParse → Grammar
  only : Tag → ContentsParse → Grammar
  any_of : (Tag → Bool) → Parse → Grammar

-- the parse of octets from the front
abbrev pub parse_of : Grammar → Parse
parse_of (one t contents) = parse_tagged t contents
parse_of (only t contents) = parse_tagged t contents
parse_of (any_of tags parse) = parse

-- the tags that encodings begin with
abbrev pub tags_of : Grammar → Tag → Bool
tags_of (one t contents) u = same_identifier u t
tags_of (only t contents) u = same_identifier u t
tags_of (any_of tags parse) u = tags u

-- the classes of tags that a type may name (X.690 8.1.2.2)
abbrev pub application : ℕ
application = 1

abbrev pub context : ℕ
context = 2

abbrev pub private : ℕ
private = 3

-- `[n] EXPLICIT A`: the contents octets are the encoding (X.690 8.14.2)
abbrev pub EXPLICIT : ℕ → ℕ → Grammar → Grammar
EXPLICIT tag_class n g = one (marker_tag tag_class true n) (parse_field (parse_of g) parse_end)

-- `[n] IMPLICIT A`: the tag replaces that of A (8.14.3); before a CHOICE and an open type it is explicit (X.680 31.2.7)
abbrev pub IMPLICIT : ℕ → ℕ → Grammar → Grammar
IMPLICIT tag_class n (one t contents) = one (marker_tag tag_class (is_constructed t) n) contents
IMPLICIT tag_class n (only t contents) = EXPLICIT tag_class n (only t contents)
IMPLICIT tag_class n (any_of tags parse) = EXPLICIT tag_class n (any_of tags parse)

-- `SEQUENCE { .. }` (X.690 8.9), and `SET { .. }` with its fields in the order of their tags (8.11, 10.3)
abbrev pub SEQUENCE : ContentsParse → Grammar
SEQUENCE fields = one tags.Sequence fields

abbrev pub SET : ContentsParse → Grammar
SET fields = one tags.Set fields

-- a field that is always present, and the fields after it
abbrev pub field : Grammar → ContentsParse → ContentsParse
field g others = parse_field (parse_of g) others

-- a field that may be absent (X.680 25.5)
abbrev pub OPTIONAL : Grammar → ContentsParse → ContentsParse
OPTIONAL g others = parse_field (parse_option (tags_of g) (parse_of g)) others

-- a field that is absent if it has this encoding (X.690 11.5)
abbrev pub DEFAULT : List ℕ → Grammar → ContentsParse → ContentsParse
DEFAULT default g others = parse_field (parse_default (tags_of g) default (parse_of g)) others

-- no further field
abbrev pub end : ContentsParse
end = parse_end

-- `SEQUENCE OF A` (X.690 8.10), and `SET OF A` in order (11.6)
abbrev pub SEQUENCE_OF : Grammar → Grammar
SEQUENCE_OF g = one tags.Sequence (parse_items (parse_of g))

abbrev pub SET_OF : Grammar → Grammar
SET_OF g = one tags.Set (parse_set (parse_of g))

-- `SIZE (1..MAX)` of either (X.680 51.5): an empty list is refused
abbrev pub NOT_EMPTY : Grammar → Grammar
NOT_EMPTY (one t contents) = one t (parse_some t contents)
NOT_EMPTY (only t contents) = only t (parse_some t contents)
NOT_EMPTY (any_of tags parse) = any_of tags parse

-- an ENUMERATED whose values are only the numbers of these names (X.680 20, X.690 8.4)
abbrev pub NAMED : {E : Type 0} → (E → ℤ) → List E → Tag → Grammar
NAMED number_of names t = one t (parse_named t number_of names)

-- a type that is read, and whose contents octets are kept as they came
abbrev pub KEPT : Grammar → Grammar
KEPT (one t contents) = one t (parse_kept contents)
KEPT (only t contents) = only t (parse_kept contents)
KEPT (any_of tags parse) = any_of tags parse

-- `CHOICE { a A, b B }` (X.690 8.13), where more alternatives are a tree; and a CHOICE of one alternative
abbrev pub CHOICE : Grammar → Grammar → Grammar
CHOICE g h = any_of (λ u. tags_of g u || tags_of h u) (parse_one (tags_of g) (tags_of h) (parse_of g) (parse_of h))

abbrev pub CHOICE_OF_ONE : Grammar → Grammar
CHOICE_OF_ONE (one t contents) = only t contents
CHOICE_OF_ONE (only t contents) = only t contents
CHOICE_OF_ONE (any_of tags parse) = any_of tags parse

-- ---- octets by the names of fields

-- octets, one after another
abbrev pub joined : List (List ℕ) → List ℕ
joined [] = []
joined (first ∷ others) = first ++ joined others

-- the octets of a field that may be absent
abbrev pub optional : {T : Type 0} → (T → List ℕ) → Option T → List ℕ
optional encoding None = []
optional encoding (Some v) = encoding v

-- the octets of a field with a default
abbrev pub unless_default : List ℕ → List ℕ → List ℕ
unless_default default octets = octets_unless (is_default default octets) octets

-- an encoding after an explicit tag, and contents octets after an implicit one
abbrev pub explicit_encoding : ℕ → ℕ → List ℕ → List ℕ
explicit_encoding tag_class n octets = tlv (marker_tag tag_class true n) (octets ++ [])

abbrev pub implicit_encoding : ℕ → Bool → ℕ → List ℕ → List ℕ
implicit_encoding tag_class constructed n contents = tlv (marker_tag tag_class constructed n) contents

-- the octets of a field that may be absent, and holds a value
pub optional_of : {S T : Type 0} (held : S → T) (encoding : T → List ℕ) (o : Option S) → encoding_option (λ s. encoding (held s)) o ≡ optional encoding (option_map held o)
optional_of held encoding None = refl
optional_of held encoding (Some s) = refl

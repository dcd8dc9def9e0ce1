-- The fields of Subtree, by their names.
-- Made by tools/asn1 from shapes.asn1.
use Rattle.std.specs.Prelude.{Bool, Option, option_map, ℕ}
use Rattle.der_lists.specs.declared.list_ref.ListRef.{ListRef}
use Rattle.der_numbers.specs.declared.uint_ref.UintRef.{UintRef}
use Rattle.der_shapes.specs.declared.shapes.general.General.{General}
use Rattle.der_shapes.specs.declared.shapes.status.Status.{Status}
use Rattle.der_shapes.specs.declared.shapes.subtree.Subtree.{Subtree}

-- base [5] EXPLICIT General
abbrev pub base : Subtree → General
base v = v.fields.list.first.fields.first

-- minimum [0] INTEGER (0..255) DEFAULT 0
abbrev pub minimum : Subtree → ℕ
minimum v = v.fields.list.rest.first.value.value

-- maximum [1] INTEGER (0..MAX) OPTIONAL
abbrev pub maximum : Subtree → Option UintRef
maximum v = option_map (λ x. x.value) v.fields.list.rest.rest.first

-- only [PRIVATE 2] BOOLEAN DEFAULT FALSE
abbrev pub only : Subtree → Bool
only v = v.fields.list.rest.rest.rest.first.value.value

-- statuses [3] SEQUENCE OF Status OPTIONAL
abbrev pub statuses : Subtree → Option (ListRef Status)
statuses v = option_map (λ x. x.value) v.fields.list.rest.rest.rest.rest.first

-- The fields of Sizes, by their names.
-- Made by tools/asn1 from shapes.asn1.
use Rattle.std.specs.Prelude.{Bool, Option, option_map}
use Rattle.der_constrained.specs.declared.constrained.Constrained.{Constrained}
use Rattle.der_constrained.specs.declared.constraint.UnionOf.{UnionOf}
use Rattle.der_constrained.specs.declared.sizes.HasSize.{HasSize}
use Rattle.der_lists.specs.declared.list_ref.ListRef.{ListRef}
use Rattle.der_lists.specs.declared.set_ref.SetRef.{SetRef}
use Rattle.der_lists.specs.declared.unordered_set_ref.UnorderedSetRef.{UnorderedSetRef}
use Rattle.der_opaque.specs.declared.any_ref.AnyRef.{AnyRef}
use Rattle.der_shapes.specs.declared.shapes.few.Few.{Few}
use Rattle.der_shapes.specs.declared.shapes.label.Label.{Label}
use Rattle.der_shapes.specs.declared.shapes.sizes.Sizes.{Sizes}
use Rattle.der_shapes.specs.declared.shapes.status.Status.{Status}

-- few Few
abbrev pub few : Sizes → Few
few v = v.fields.list.first

-- pair [0] SEQUENCE SIZE (2) OF ANY OPTIONAL
abbrev pub pair : Sizes → Option (Constrained (ListRef AnyRef) (HasSize 2 2))
pair v = option_map (λ x. x.value) v.fields.list.rest.first

-- ordered SET SIZE (0..2) OF BOOLEAN
abbrev pub ordered : Sizes → Constrained (SetRef Bool) (HasSize 0 2)
ordered v = v.fields.list.rest.rest.first

-- unordered [1] EXPLICIT SET SIZE (2 | 4..MAX) OF Status OPTIONAL
abbrev pub unordered : Sizes → Option (Constrained (UnorderedSetRef Status) (UnionOf (HasSize 2 2) (HasSize 4 4294967295)))
unordered v = option_map (λ x. x.fields.first) v.fields.list.rest.rest.rest.first

-- labels SEQUENCE SIZE (2..MAX) OF Label OPTIONAL
abbrev pub labels : Sizes → Option (Constrained (ListRef Label) (HasSize 2 4294967295))
labels v = v.fields.list.rest.rest.rest.rest.first

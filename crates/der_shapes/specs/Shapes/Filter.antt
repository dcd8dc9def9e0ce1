-- The alternatives of Filter, as a tree.
-- Made by tools/asn1 from shapes.asn1.
use Rattle.der_fields.specs.declared.implicit.ImplicitIn.{ImplicitIn}
use Rattle.der_fields.specs.declared.one_of.OneOf.{OneOf}
use Rattle.der_fields.specs.declared.one_of.OneOf.TheVariants.{First, Other}
use Rattle.der_nest.specs.declared.sequence_ref.SequenceRef.{SequenceRef}
use Rattle.der_opaque.specs.declared.octet_string_ref.OctetStringRef.{OctetStringRef}
use Rattle.der_shapes.specs.declared.shapes.filter.Filter.{Filter}
use Rattle.der_shapes.specs.declared.shapes.filter.Filter.TheVariants as of

abbrev pub tree_of : Filter → (OneOf (OneOf (ImplicitIn SequenceRef 2 0) (ImplicitIn SequenceRef 2 1)) (ImplicitIn OctetStringRef 2 2))
tree_of (of.And v) = First (First v)
tree_of (of.Not v) = First (Other v)
tree_of (of.Present v) = Other v

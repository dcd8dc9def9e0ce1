-- The alternatives of Label, as a tree.
-- Made by tools/asn1 from shapes.asn1.
use Rattle.der_fields.specs.declared.implicit.ImplicitIn.{ImplicitIn}
use Rattle.der_fields.specs.declared.one_of.OneOf.{OneOf}
use Rattle.der_fields.specs.declared.one_of.OneOf.TheVariants.{First, Other}
use Rattle.der_numbers.specs.declared.int_ref.IntRef.{IntRef}
use Rattle.der_opaque.specs.declared.octet_string.OctetString.{OctetString}
use Rattle.der_shapes.specs.declared.shapes.label.Label.{Label}
use Rattle.der_shapes.specs.declared.shapes.label.Label.TheVariants as of

abbrev pub tree_of : Label → (OneOf OctetString (ImplicitIn IntRef 2 0))
tree_of (of.Text v) = First v
tree_of (of.Number v) = Other v

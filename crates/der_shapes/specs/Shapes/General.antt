-- The alternatives of General, as a tree.
-- Made by tools/asn1 from shapes.asn1.
use Rattle.der_ascii.specs.declared.string_ref.CharacterStringRef.{CharacterStringRef}
use Rattle.der_fields.specs.declared.implicit.ImplicitIn.{ImplicitIn}
use Rattle.der_fields.specs.declared.one_of.OneOf.{OneOf}
use Rattle.der_fields.specs.declared.one_of.OneOf.TheVariants.{First, Other}
use Rattle.der_opaque.specs.declared.octet_string_ref.OctetStringRef.{OctetStringRef}
use Rattle.der_shapes.specs.declared.shapes.general.General.{General}
use Rattle.der_shapes.specs.declared.shapes.general.General.TheVariants as of
use Rattle.der_shapes.specs.declared.shapes.status.Status.{Status}

abbrev pub tree_of : General → (OneOf (OneOf (ImplicitIn (CharacterStringRef 22) 2 11) (ImplicitIn OctetStringRef 2 17)) Status)
tree_of (of.Address v) = First (First v)
tree_of (of.Number v) = First (Other v)
tree_of (of.Status v) = Other v

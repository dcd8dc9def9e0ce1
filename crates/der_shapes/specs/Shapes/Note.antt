-- The alternatives of Note, as a tree.
-- Made by tools/asn1 from shapes.asn1.
use Rattle.der_fields.specs.declared.one_of.OneOf.{OneOf}
use Rattle.der_fields.specs.declared.one_of.OneOf.TheVariants.{First, Other}
use Rattle.der_shapes.specs.declared.shapes.note.Note.{Note}
use Rattle.der_shapes.specs.declared.shapes.note.Note.TheVariants as of
use Rattle.der_simple.specs.declared.relative_oid.RelativeOidRef.{RelativeOidRef}
use Rattle.der_simple.specs.declared.string_ref.SimpleStringRef.{SimpleStringRef}

abbrev pub tree_of : Note → (OneOf (OneOf (SimpleStringRef 18) (SimpleStringRef 26)) RelativeOidRef)
tree_of (of.Digits v) = First (First v)
tree_of (of.Text v) = First (Other v)
tree_of (of.Arcs v) = Other v

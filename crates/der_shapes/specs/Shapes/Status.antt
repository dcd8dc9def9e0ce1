-- The alternatives of Status, as a tree.
-- Made by tools/asn1 from shapes.asn1.
use Rattle.der_fields.specs.declared.implicit.ImplicitIn.{ImplicitIn}
use Rattle.der_fields.specs.declared.one_of.OneOf.{OneOf}
use Rattle.der_fields.specs.declared.one_of.OneOf.TheVariants.{First, Other}
use Rattle.der_opaque.specs.declared.null.Null.{Null}
use Rattle.der_shapes.specs.declared.shapes.status.Status.{Status}
use Rattle.der_shapes.specs.declared.shapes.status.Status.TheVariants as of
use Rattle.der_time.specs.declared.generalized_time.GeneralizedTime.{GeneralizedTime}

abbrev pub tree_of : Status → (OneOf (OneOf (ImplicitIn Null 2 0) (ImplicitIn GeneralizedTime 2 1)) (ImplicitIn Null 2 2))
tree_of (of.Good v) = First (First v)
tree_of (of.Revoked v) = First (Other v)
tree_of (of.Unknown v) = Other v

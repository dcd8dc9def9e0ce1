-- The alternatives of ECParameters, as a tree.
-- Made by tools/asn1 from key.asn1.
use Rattle.der_fields.specs.declared.one_of.OneOf.{OneOf}
use Rattle.der_fields.specs.declared.one_of.OneOf.TheVariants.{First, Other}
use Rattle.der_opaque.specs.declared.null.Null.{Null}
use Rattle.der_opaque.specs.declared.object_identifier_ref.ObjectIdentifierRef.{ObjectIdentifierRef}
use Rattle.der_pkix.specs.declared.key.ec_parameters.EcParameters.{EcParameters}
use Rattle.der_pkix.specs.declared.key.ec_parameters.EcParameters.TheVariants as of
use Rattle.der_pkix.specs.declared.key.specified_ec_domain.SpecifiedEcDomain.{SpecifiedEcDomain}

abbrev pub tree_of : EcParameters → (OneOf (OneOf (ObjectIdentifierRef 39) Null) SpecifiedEcDomain)
tree_of (of.NamedCurve v) = First (First v)
tree_of (of.ImplicitCurve v) = First (Other v)
tree_of (of.SpecifiedCurve v) = Other v

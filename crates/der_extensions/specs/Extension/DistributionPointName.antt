-- The alternatives of DistributionPointName, as a tree.
-- Made by tools/asn1 from extension.asn1.
use Rattle.der_extensions.specs.declared.extension.distribution_point_name.DistributionPointName.{DistributionPointName}
use Rattle.der_extensions.specs.declared.extension.distribution_point_name.DistributionPointName.TheVariants as of
use Rattle.der_extensions.specs.declared.extension.general_names.GeneralNames.{GeneralNames}
use Rattle.der_fields.specs.declared.implicit.ImplicitIn.{ImplicitIn}
use Rattle.der_fields.specs.declared.one_of.OneOf.{OneOf}
use Rattle.der_fields.specs.declared.one_of.OneOf.TheVariants.{First, Other}
use Rattle.der_pkix.specs.declared.name.relative_distinguished_name.RelativeDistinguishedName.{RelativeDistinguishedName}

abbrev pub tree_of : DistributionPointName → (OneOf (ImplicitIn GeneralNames 2 0) (ImplicitIn RelativeDistinguishedName 2 1))
tree_of (of.FullName v) = First v
tree_of (of.NameRelativeToCrlIssuer v) = Other v

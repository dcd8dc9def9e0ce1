-- The fields of DistributionPoint, by their names.
-- Made by tools/asn1 from extension.asn1.
use Rattle.std.specs.Prelude.{Option, option_map}
use Rattle.der_bits.specs.declared.named_bits.NamedBitsRef.{NamedBitsRef}
use Rattle.der_extensions.specs.declared.extension.distribution_point.DistributionPoint.{DistributionPoint}
use Rattle.der_extensions.specs.declared.extension.distribution_point_name.DistributionPointName.{DistributionPointName}
use Rattle.der_extensions.specs.declared.extension.general_names.GeneralNames.{GeneralNames}

-- distributionPoint [0] DistributionPointName OPTIONAL
abbrev pub distribution_point : DistributionPoint → Option DistributionPointName
distribution_point v = option_map (λ x. x.fields.first) v.fields.list.first

-- reasons [1] ReasonFlags OPTIONAL
abbrev pub reasons : DistributionPoint → Option NamedBitsRef
reasons v = option_map (λ x. x.value) v.fields.list.rest.first

-- cRLIssuer [2] GeneralNames OPTIONAL
abbrev pub crl_issuer : DistributionPoint → Option GeneralNames
crl_issuer v = option_map (λ x. x.value) v.fields.list.rest.rest.first

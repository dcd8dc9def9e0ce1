-- The fields of IssuingDistributionPoint, by their names.
-- Made by tools/asn1 from extension.asn1.
use Rattle.std.specs.Prelude.{Bool, Option, option_map}
use Rattle.der_bits.specs.declared.named_bits.NamedBitsRef.{NamedBitsRef}
use Rattle.der_extensions.specs.declared.extension.distribution_point_name.DistributionPointName.{DistributionPointName}
use Rattle.der_extensions.specs.declared.extension.issuing_distribution_point.IssuingDistributionPoint.{IssuingDistributionPoint}

-- distributionPoint [0] DistributionPointName OPTIONAL
abbrev pub distribution_point : IssuingDistributionPoint → Option DistributionPointName
distribution_point v = option_map (λ x. x.fields.first) v.fields.list.first

-- onlyContainsUserCerts [1] BOOLEAN DEFAULT FALSE
abbrev pub only_contains_user_certs : IssuingDistributionPoint → Bool
only_contains_user_certs v = v.fields.list.rest.first.value.value

-- onlyContainsCACerts [2] BOOLEAN DEFAULT FALSE
abbrev pub only_contains_ca_certs : IssuingDistributionPoint → Bool
only_contains_ca_certs v = v.fields.list.rest.rest.first.value.value

-- onlySomeReasons [3] ReasonFlags OPTIONAL
abbrev pub only_some_reasons : IssuingDistributionPoint → Option NamedBitsRef
only_some_reasons v = option_map (λ x. x.value) v.fields.list.rest.rest.rest.first

-- indirectCRL [4] BOOLEAN DEFAULT FALSE
abbrev pub indirect_crl : IssuingDistributionPoint → Bool
indirect_crl v = v.fields.list.rest.rest.rest.rest.first.value.value

-- onlyContainsAttributeCerts [5] BOOLEAN DEFAULT FALSE
abbrev pub only_contains_attribute_certs : IssuingDistributionPoint → Bool
only_contains_attribute_certs v = v.fields.list.rest.rest.rest.rest.rest.first.value.value

-- The fields of PrivateKeyUsagePeriod, by their names.
-- Made by tools/asn1 from extension.asn1.
use Rattle.std.specs.Prelude.{Option, option_map}
use Rattle.der_extensions.specs.declared.extension.private_key_usage_period.PrivateKeyUsagePeriod.{PrivateKeyUsagePeriod}
use Rattle.der_time.specs.declared.generalized_time.GeneralizedTime.{GeneralizedTime}

-- notBefore [0] GeneralizedTime OPTIONAL
abbrev pub not_before : PrivateKeyUsagePeriod → Option GeneralizedTime
not_before v = option_map (λ x. x.value) v.fields.list.first

-- notAfter [1] GeneralizedTime OPTIONAL
abbrev pub not_after : PrivateKeyUsagePeriod → Option GeneralizedTime
not_after v = option_map (λ x. x.value) v.fields.list.rest.first

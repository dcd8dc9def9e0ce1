-- The fields of SpecifiedECDomain, by their names.
-- Made by tools/asn1 from key.asn1.
use Rattle.std.specs.Prelude.{Option, ℕ}
use Rattle.der_numbers.specs.declared.int_ref.IntRef.{IntRef}
use Rattle.der_opaque.specs.declared.octet_string_ref.OctetStringRef.{OctetStringRef}
use Rattle.der_pkix.specs.declared.algorithm_identifier.AlgorithmIdentifier.{AlgorithmIdentifier}
use Rattle.der_pkix.specs.declared.key.curve.Curve.{Curve}
use Rattle.der_pkix.specs.declared.key.field_id.FieldId.{FieldId}
use Rattle.der_pkix.specs.declared.key.specified_ec_domain.SpecifiedEcDomain.{SpecifiedEcDomain}

-- version INTEGER { ecdpVer1 (1), ecdpVer2 (2), ecdpVer3 (3) }
abbrev pub version : SpecifiedEcDomain → ℕ
version v = v.fields.list.first

-- fieldID FieldID
abbrev pub field_id : SpecifiedEcDomain → FieldId
field_id v = v.fields.list.rest.first

-- curve Curve
abbrev pub curve : SpecifiedEcDomain → Curve
curve v = v.fields.list.rest.rest.first

-- base OCTET STRING
abbrev pub base : SpecifiedEcDomain → OctetStringRef
base v = v.fields.list.rest.rest.rest.first

-- order INTEGER
abbrev pub order : SpecifiedEcDomain → IntRef
order v = v.fields.list.rest.rest.rest.rest.first

-- cofactor INTEGER OPTIONAL
abbrev pub cofactor : SpecifiedEcDomain → Option IntRef
cofactor v = v.fields.list.rest.rest.rest.rest.rest.first

-- hash AlgorithmIdentifier OPTIONAL
abbrev pub hash : SpecifiedEcDomain → Option AlgorithmIdentifier
hash v = v.fields.list.rest.rest.rest.rest.rest.rest.first

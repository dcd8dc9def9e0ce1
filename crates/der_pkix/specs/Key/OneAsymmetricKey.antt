-- The fields of OneAsymmetricKey, by their names.
-- Made by tools/asn1 from key.asn1.
use Rattle.std.specs.Prelude.{Option, option_map, ℕ}
use Rattle.der_bits.specs.declared.bit_string_ref.BitStringRef.{BitStringRef}
use Rattle.der_opaque.specs.declared.octet_string_ref.OctetStringRef.{OctetStringRef}
use Rattle.der_pkix.specs.declared.algorithm_identifier.AlgorithmIdentifier.{AlgorithmIdentifier}
use Rattle.der_pkix.specs.declared.key.attributes.Attributes.{Attributes}
use Rattle.der_pkix.specs.declared.key.one_asymmetric_key.OneAsymmetricKey.{OneAsymmetricKey}

-- version INTEGER { v1 (0), v2 (1) }
abbrev pub version : OneAsymmetricKey → ℕ
version v = v.fields.list.first

-- privateKeyAlgorithm AlgorithmIdentifier
abbrev pub private_key_algorithm : OneAsymmetricKey → AlgorithmIdentifier
private_key_algorithm v = v.fields.list.rest.first

-- privateKey OCTET STRING
abbrev pub private_key : OneAsymmetricKey → OctetStringRef
private_key v = v.fields.list.rest.rest.first

-- attributes [0] IMPLICIT Attributes OPTIONAL
abbrev pub attributes : OneAsymmetricKey → Option Attributes
attributes v = option_map (λ x. x.value) v.fields.list.rest.rest.rest.first

-- publicKey [1] IMPLICIT BIT STRING OPTIONAL
abbrev pub public_key : OneAsymmetricKey → Option BitStringRef
public_key v = option_map (λ x. x.value) v.fields.list.rest.rest.rest.rest.first

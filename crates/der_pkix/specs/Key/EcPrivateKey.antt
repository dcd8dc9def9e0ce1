-- The fields of ECPrivateKey, by their names.
-- Made by tools/asn1 from key.asn1.
use Rattle.std.specs.Prelude.{Option, option_map, ℕ}
use Rattle.der_bits.specs.declared.bit_string_ref.BitStringRef.{BitStringRef}
use Rattle.der_opaque.specs.declared.octet_string_ref.OctetStringRef.{OctetStringRef}
use Rattle.der_pkix.specs.declared.key.ec_parameters.EcParameters.{EcParameters}
use Rattle.der_pkix.specs.declared.key.ec_private_key.EcPrivateKey.{EcPrivateKey}

-- version INTEGER { ecPrivkeyVer1 (1) }
abbrev pub version : EcPrivateKey → ℕ
version v = v.fields.list.first

-- privateKey OCTET STRING
abbrev pub private_key : EcPrivateKey → OctetStringRef
private_key v = v.fields.list.rest.first

-- parameters [0] ECParameters OPTIONAL
abbrev pub parameters : EcPrivateKey → Option EcParameters
parameters v = option_map (λ x. x.fields.first) v.fields.list.rest.rest.first

-- publicKey [1] BIT STRING OPTIONAL
abbrev pub public_key : EcPrivateKey → Option BitStringRef
public_key v = option_map (λ x. x.fields.first) v.fields.list.rest.rest.rest.first

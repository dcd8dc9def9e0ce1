-- The fields of PasswordRecipientInfo, by their names.
-- Made by tools/asn1 from enveloped.asn1.
use Rattle.std.specs.Prelude.{Option, option_map, ℕ}
use Rattle.der_enveloped.specs.declared.enveloped.password_recipient_info.PasswordRecipientInfo.{PasswordRecipientInfo}
use Rattle.der_opaque.specs.declared.octet_string_ref.OctetStringRef.{OctetStringRef}
use Rattle.der_pkix.specs.declared.algorithm_identifier.AlgorithmIdentifier.{AlgorithmIdentifier}

-- version CMSVersion
abbrev pub version : PasswordRecipientInfo → ℕ
version v = v.fields.list.first

-- keyDerivationAlgorithm [0] AlgorithmIdentifier OPTIONAL
abbrev pub key_derivation_algorithm : PasswordRecipientInfo → Option AlgorithmIdentifier
key_derivation_algorithm v = option_map (λ x. x.value) v.fields.list.rest.first

-- keyEncryptionAlgorithm AlgorithmIdentifier
abbrev pub key_encryption_algorithm : PasswordRecipientInfo → AlgorithmIdentifier
key_encryption_algorithm v = v.fields.list.rest.rest.first

-- encryptedKey OCTET STRING
abbrev pub encrypted_key : PasswordRecipientInfo → OctetStringRef
encrypted_key v = v.fields.list.rest.rest.rest.first

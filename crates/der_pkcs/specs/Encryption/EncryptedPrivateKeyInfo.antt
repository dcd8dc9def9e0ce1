-- The fields of EncryptedPrivateKeyInfo, by their names.
-- Made by tools/asn1 from encryption.asn1.
use Rattle.der_opaque.specs.declared.octet_string_ref.OctetStringRef.{OctetStringRef}
use Rattle.der_pkcs.specs.declared.encryption.encrypted_private_key_info.EncryptedPrivateKeyInfo.{EncryptedPrivateKeyInfo}
use Rattle.der_pkix.specs.declared.algorithm_identifier.AlgorithmIdentifier.{AlgorithmIdentifier}

-- encryptionAlgorithm AlgorithmIdentifier
abbrev pub encryption_algorithm : EncryptedPrivateKeyInfo → AlgorithmIdentifier
encryption_algorithm v = v.fields.list.first

-- encryptedData OCTET STRING
abbrev pub encrypted_data : EncryptedPrivateKeyInfo → OctetStringRef
encrypted_data v = v.fields.list.rest.first

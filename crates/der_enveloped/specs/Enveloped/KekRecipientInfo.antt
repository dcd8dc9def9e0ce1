-- The fields of KEKRecipientInfo, by their names.
-- Made by tools/asn1 from enveloped.asn1.
use Rattle.std.specs.Prelude.{ℕ}
use Rattle.der_enveloped.specs.declared.enveloped.kek_recipient_info.KekRecipientInfo.{KekRecipientInfo}
use Rattle.der_enveloped.specs.declared.enveloped.recipient_key_identifier.RecipientKeyIdentifier.{RecipientKeyIdentifier}
use Rattle.der_opaque.specs.declared.octet_string_ref.OctetStringRef.{OctetStringRef}
use Rattle.der_pkix.specs.declared.algorithm_identifier.AlgorithmIdentifier.{AlgorithmIdentifier}

-- version CMSVersion
abbrev pub version : KekRecipientInfo → ℕ
version v = v.fields.list.first

-- kekid KEKIdentifier
abbrev pub kekid : KekRecipientInfo → RecipientKeyIdentifier
kekid v = v.fields.list.rest.first

-- keyEncryptionAlgorithm AlgorithmIdentifier
abbrev pub key_encryption_algorithm : KekRecipientInfo → AlgorithmIdentifier
key_encryption_algorithm v = v.fields.list.rest.rest.first

-- encryptedKey OCTET STRING
abbrev pub encrypted_key : KekRecipientInfo → OctetStringRef
encrypted_key v = v.fields.list.rest.rest.rest.first

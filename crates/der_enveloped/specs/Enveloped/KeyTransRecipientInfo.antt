-- The fields of KeyTransRecipientInfo, by their names.
-- Made by tools/asn1 from enveloped.asn1.
use Rattle.std.specs.Prelude.{ℕ}
use Rattle.der_cms.specs.declared.cms.signer_identifier.SignerIdentifier.{SignerIdentifier}
use Rattle.der_enveloped.specs.declared.enveloped.key_trans_recipient_info.KeyTransRecipientInfo.{KeyTransRecipientInfo}
use Rattle.der_opaque.specs.declared.octet_string_ref.OctetStringRef.{OctetStringRef}
use Rattle.der_pkix.specs.declared.algorithm_identifier.AlgorithmIdentifier.{AlgorithmIdentifier}

-- version CMSVersion
abbrev pub version : KeyTransRecipientInfo → ℕ
version v = v.fields.list.first

-- rid RecipientIdentifier
abbrev pub rid : KeyTransRecipientInfo → SignerIdentifier
rid v = v.fields.list.rest.first

-- keyEncryptionAlgorithm AlgorithmIdentifier
abbrev pub key_encryption_algorithm : KeyTransRecipientInfo → AlgorithmIdentifier
key_encryption_algorithm v = v.fields.list.rest.rest.first

-- encryptedKey OCTET STRING
abbrev pub encrypted_key : KeyTransRecipientInfo → OctetStringRef
encrypted_key v = v.fields.list.rest.rest.rest.first

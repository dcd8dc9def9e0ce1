-- The fields of KeyAgreeRecipientInfo, by their names.
-- Made by tools/asn1 from enveloped.asn1.
use Rattle.std.specs.Prelude.{Option, option_map, ℕ}
use Rattle.der_enveloped.specs.declared.enveloped.key_agree_recipient_info.KeyAgreeRecipientInfo.{KeyAgreeRecipientInfo}
use Rattle.der_enveloped.specs.declared.enveloped.originator_identifier_or_key.OriginatorIdentifierOrKey.{OriginatorIdentifierOrKey}
use Rattle.der_enveloped.specs.declared.enveloped.recipient_encrypted_keys.RecipientEncryptedKeys.{RecipientEncryptedKeys}
use Rattle.der_opaque.specs.declared.octet_string_ref.OctetStringRef.{OctetStringRef}
use Rattle.der_pkix.specs.declared.algorithm_identifier.AlgorithmIdentifier.{AlgorithmIdentifier}

-- version CMSVersion
abbrev pub version : KeyAgreeRecipientInfo → ℕ
version v = v.fields.list.first

-- originator [0] EXPLICIT OriginatorIdentifierOrKey
abbrev pub originator : KeyAgreeRecipientInfo → OriginatorIdentifierOrKey
originator v = v.fields.list.rest.first.fields.first

-- ukm [1] EXPLICIT UserKeyingMaterial OPTIONAL
abbrev pub ukm : KeyAgreeRecipientInfo → Option OctetStringRef
ukm v = option_map (λ x. x.fields.first) v.fields.list.rest.rest.first

-- keyEncryptionAlgorithm AlgorithmIdentifier
abbrev pub key_encryption_algorithm : KeyAgreeRecipientInfo → AlgorithmIdentifier
key_encryption_algorithm v = v.fields.list.rest.rest.rest.first

-- recipientEncryptedKeys RecipientEncryptedKeys
abbrev pub recipient_encrypted_keys : KeyAgreeRecipientInfo → RecipientEncryptedKeys
recipient_encrypted_keys v = v.fields.list.rest.rest.rest.rest.first

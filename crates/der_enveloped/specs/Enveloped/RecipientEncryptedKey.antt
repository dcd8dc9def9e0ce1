-- The fields of RecipientEncryptedKey, by their names.
-- Made by tools/asn1 from enveloped.asn1.
use Rattle.der_enveloped.specs.declared.enveloped.key_agree_recipient_identifier.KeyAgreeRecipientIdentifier.{KeyAgreeRecipientIdentifier}
use Rattle.der_enveloped.specs.declared.enveloped.recipient_encrypted_key.RecipientEncryptedKey.{RecipientEncryptedKey}
use Rattle.der_opaque.specs.declared.octet_string_ref.OctetStringRef.{OctetStringRef}

-- rid KeyAgreeRecipientIdentifier
abbrev pub rid : RecipientEncryptedKey → KeyAgreeRecipientIdentifier
rid v = v.fields.list.first

-- encryptedKey OCTET STRING
abbrev pub encrypted_key : RecipientEncryptedKey → OctetStringRef
encrypted_key v = v.fields.list.rest.first

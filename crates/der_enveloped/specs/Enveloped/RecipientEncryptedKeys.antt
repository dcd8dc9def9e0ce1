-- The items of RecipientEncryptedKeys.
-- Made by tools/asn1 from enveloped.asn1.
use Rattle.der_enveloped.specs.declared.enveloped.recipient_encrypted_key.RecipientEncryptedKey.{RecipientEncryptedKey}
use Rattle.der_enveloped.specs.declared.enveloped.recipient_encrypted_keys.RecipientEncryptedKeys.{RecipientEncryptedKeys}
use Rattle.der_lists.specs.declared.list_ref.ListRef.{ListRef}

abbrev pub items_of : RecipientEncryptedKeys → ListRef RecipientEncryptedKey
items_of v = v.items

-- The alternatives of KeyAgreeRecipientIdentifier, as a tree.
-- Made by tools/asn1 from enveloped.asn1.
use Rattle.der_cms.specs.declared.cms.issuer_and_serial_number.IssuerAndSerialNumber.{IssuerAndSerialNumber}
use Rattle.der_enveloped.specs.declared.enveloped.key_agree_recipient_identifier.KeyAgreeRecipientIdentifier.{KeyAgreeRecipientIdentifier}
use Rattle.der_enveloped.specs.declared.enveloped.key_agree_recipient_identifier.KeyAgreeRecipientIdentifier.TheVariants as of
use Rattle.der_enveloped.specs.declared.enveloped.recipient_key_identifier.RecipientKeyIdentifier.{RecipientKeyIdentifier}
use Rattle.der_fields.specs.declared.implicit.ImplicitIn.{ImplicitIn}
use Rattle.der_fields.specs.declared.one_of.OneOf.{OneOf}
use Rattle.der_fields.specs.declared.one_of.OneOf.TheVariants.{First, Other}

abbrev pub tree_of : KeyAgreeRecipientIdentifier → (OneOf IssuerAndSerialNumber (ImplicitIn RecipientKeyIdentifier 2 0))
tree_of (of.IssuerAndSerialNumber v) = First v
tree_of (of.RKeyId v) = Other v

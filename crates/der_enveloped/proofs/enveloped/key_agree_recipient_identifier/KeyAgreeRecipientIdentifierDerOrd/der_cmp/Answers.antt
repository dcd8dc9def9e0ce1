-- The order of KeyAgreeRecipientIdentifier, of two values of one alternative.
-- Made by tools/asn1 from enveloped.asn1.
use Rattle.der_enveloped.proofs.enveloped.key_agree_recipient_identifier.KeyAgreeRecipientIdentifierDerOrd.der_cmp.Goals as goal

pub returns-in-IssuerAndSerialNumber-IssuerAndSerialNumber : goal.returns-in-IssuerAndSerialNumber-IssuerAndSerialNumber
returns-in-IssuerAndSerialNumber-IssuerAndSerialNumber c = rw c.in-IssuerAndSerialNumber-IssuerAndSerialNumber.is-0 (rw c.in-IssuerAndSerialNumber-IssuerAndSerialNumber.is-1 c.der_cmp.ensures)

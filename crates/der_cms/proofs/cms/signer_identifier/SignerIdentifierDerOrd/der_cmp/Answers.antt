-- The order of SignerIdentifier, of two values of one alternative.
-- Made by tools/asn1 from cms.asn1.
use Rattle.der_cms.proofs.cms.signer_identifier.SignerIdentifierDerOrd.der_cmp.Goals as goal

pub returns-in-IssuerAndSerialNumber-IssuerAndSerialNumber : goal.returns-in-IssuerAndSerialNumber-IssuerAndSerialNumber
returns-in-IssuerAndSerialNumber-IssuerAndSerialNumber c = rw c.in-IssuerAndSerialNumber-IssuerAndSerialNumber.is-0 (rw c.in-IssuerAndSerialNumber-IssuerAndSerialNumber.is-1 c.der_cmp.ensures)

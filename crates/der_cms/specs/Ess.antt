-- The types of ExtendedSecurityServices-2006.
-- Made by tools/asn1 from ess.asn1.
pub mod EssCertId
pub mod EssCertIdv2
pub mod Grammar
pub mod IssuerSerial
pub mod SigningCertificate
pub mod SigningCertificateV2

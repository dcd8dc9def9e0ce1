-- The types of PkixRevocation.
-- Made by tools/asn1 from crl.asn1.
pub mod CertificateList
pub mod Grammar
pub mod RevokedCertificate
pub mod TbsCertList

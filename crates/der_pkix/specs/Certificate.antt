-- The types of PkixCertificates.
-- Made by tools/asn1 from certificate.asn1.
pub mod Certificate
pub mod Extension
pub mod Extensions
pub mod Grammar
pub mod SubjectPublicKeyInfo
pub mod TbsCertificate
pub mod Time
pub mod Validity

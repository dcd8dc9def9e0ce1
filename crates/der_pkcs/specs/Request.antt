-- The types of PKCS-10.
-- Made by tools/asn1 from request.asn1.
pub mod CertificationRequest
pub mod CertificationRequestInfo
pub mod Grammar

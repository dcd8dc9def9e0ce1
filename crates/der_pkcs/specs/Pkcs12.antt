-- The types of PKCS-12.
-- Made by tools/asn1 from pkcs12.asn1.
pub mod AuthenticatedSafe
pub mod CertBag
pub mod ContentInfo
pub mod CrlBag
pub mod DigestInfo
pub mod Grammar
pub mod MacData
pub mod Pfx
pub mod SafeBag
pub mod SafeContents
pub mod SecretBag

-- The types of CmsSigned.
-- Made by tools/asn1 from cms.asn1.
pub mod CertificateChoices
pub mod CertificateSet
pub mod ContentInfo
pub mod DigestedData
pub mod EncapsulatedContentInfo
pub mod EncryptedContentInfo
pub mod EncryptedData
pub mod Grammar
pub mod IssuerAndSerialNumber
pub mod RevocationInfoChoice
pub mod RevocationInfoChoices
pub mod SignedAttributes
pub mod SignedData
pub mod SignerIdentifier
pub mod SignerInfo
pub mod UnsignedAttributes

-- The types of PkixExtensions.
-- Made by tools/asn1 from extension.asn1.
pub mod AccessDescription
pub mod AnotherName
pub mod AuthorityInfoAccessSyntax
pub mod AuthorityKeyIdentifier
pub mod BasicConstraints
pub mod CertificatePolicies
pub mod CrlDistributionPoints
pub mod CrlReason
pub mod DistributionPoint
pub mod DistributionPointName
pub mod ExtKeyUsageSyntax
pub mod GeneralName
pub mod GeneralNames
pub mod GeneralSubtree
pub mod GeneralSubtrees
pub mod Grammar
pub mod IssuingDistributionPoint
pub mod NameConstraints
pub mod PolicyConstraints
pub mod PolicyInformation
pub mod PolicyMapping
pub mod PolicyMappings
pub mod PolicyQualifierInfo
pub mod PrivateKeyUsagePeriod
pub mod SubjectDirectoryAttributes
pub mod SubjectInfoAccessSyntax

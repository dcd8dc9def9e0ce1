-- The types of PkixKeys.
-- Made by tools/asn1 from key.asn1.
pub mod Attributes
pub mod Curve
pub mod EcParameters
pub mod EcPrivateKey
pub mod FieldId
pub mod Grammar
pub mod OneAsymmetricKey
pub mod OtherPrimeInfo
pub mod OtherPrimeInfos
pub mod RsaPrivateKey
pub mod RsaPublicKey
pub mod SpecifiedEcDomain

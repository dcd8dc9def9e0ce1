-- The types of PkixAlgorithms.
-- Made by tools/asn1 from algorithm.asn1.
pub mod DhParameter
pub mod DomainParameters
pub mod DssParms
pub mod EcdsaSigValue
pub mod Grammar
pub mod RsaesOaepParams
pub mod RsassaPssParams
pub mod ValidationParms

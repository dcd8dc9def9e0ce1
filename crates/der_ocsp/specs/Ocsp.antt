-- The types of OCSP-2013-88.
-- Made by tools/asn1 from ocsp.asn1.
pub mod AcceptableResponses
pub mod BasicOcspResponse
pub mod CertId
pub mod CertStatus
pub mod Certificates
pub mod CrlId
pub mod Grammar
pub mod OcspRequest
pub mod OcspResponse
pub mod OcspResponseStatus
pub mod PreferredSignatureAlgorithm
pub mod PreferredSignatureAlgorithms
pub mod Request
pub mod Requests
pub mod ResponderId
pub mod ResponseBytes
pub mod ResponseData
pub mod RevokedInfo
pub mod ServiceLocator
pub mod Signature
pub mod SingleResponse
pub mod SingleResponses
pub mod TbsRequest

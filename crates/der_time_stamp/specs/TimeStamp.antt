-- The types of PKIXTSP.
-- Made by tools/asn1 from time_stamp.asn1.
pub mod Accuracy
pub mod Grammar
pub mod MessageImprint
pub mod PkiFreeText
pub mod PkiStatusInfo
pub mod TimeStampReq
pub mod TimeStampResp
pub mod TimeStampToken
pub mod TstInfo

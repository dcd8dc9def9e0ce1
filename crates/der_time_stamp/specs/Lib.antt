-- Made by tools/asn1.
pub mod TimeStamp

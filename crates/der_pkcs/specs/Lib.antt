-- Made by tools/asn1.
pub mod Request
pub mod Encryption
pub mod Algorithm
pub mod Pkcs12

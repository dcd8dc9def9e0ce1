-- Made by tools/asn1.
pub mod Enveloped
pub mod Authenticated

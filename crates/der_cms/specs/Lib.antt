-- Made by tools/asn1.
pub mod Cms
pub mod Ess

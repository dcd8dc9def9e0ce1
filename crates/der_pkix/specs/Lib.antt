-- Made by tools/asn1.
pub mod Name
pub mod Certificate
pub mod Crl
pub mod Key

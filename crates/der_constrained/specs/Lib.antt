pub mod Allowed
pub mod Integers
pub mod Sizes
pub mod Components
pub mod Alphabets
pub mod Constrained
pub mod Asn1

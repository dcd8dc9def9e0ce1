pub mod Elements
pub mod ElementLaws
pub mod Additions
pub mod AdditionsLaws
pub mod Asn1

pub mod FromText
pub mod Pairs
pub mod Utf8

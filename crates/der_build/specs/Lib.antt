pub mod Attributes
pub mod Extensions
pub mod Keys
pub mod Names

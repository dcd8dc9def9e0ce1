pub mod Enumerations
pub mod Numbers
pub mod Filter
pub mod HeldLaws
pub mod Tree

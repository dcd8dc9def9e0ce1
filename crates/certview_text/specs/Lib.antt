pub mod Dsa
pub mod Faults
pub mod Grammars
pub mod Kinds
pub mod Moments
pub mod Shown

pub mod Held
pub mod Depth
pub mod Checking
pub mod CheckingNext

pub mod SameValues
pub mod Faults
pub mod Walking
pub mod WalkingHeld

pub mod Algorithms
pub mod EncodedAlike
pub mod FindingOne
pub mod FirstFields
pub mod FirstValues
pub mod Fronts
pub mod FrontsAgree
pub mod OtherRules
pub mod Repeats
pub mod ShownItems
pub mod Steps
mod Spaces
pub mod Walks

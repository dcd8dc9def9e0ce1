pub mod ExplicitDecoding
pub mod FieldDecoding
pub mod ImplicitDecoding
pub mod OwnTags

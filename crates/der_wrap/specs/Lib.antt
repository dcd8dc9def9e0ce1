pub mod ClassTags
pub mod TaggedValues
pub mod TaggedValueLaws
pub mod TaggedValueEquality
pub mod TaggedFields
pub use Rattle.der_tlv.specs.HeaderOctets
pub use Rattle.der_tlv.specs.TagParts
pub use Rattle.der_tlv.specs.declared.tag.mode.TagMode

pub mod Asn1
pub mod GeneralString
pub mod MemberLaws
pub mod Members
pub use Rattle.der_opaque.specs.Opaque
pub use Rattle.der_tlv.specs.declared.tag.Tag

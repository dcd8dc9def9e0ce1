-- The types of PkixNames.
-- Made by tools/asn1 from name.asn1.
pub mod Attribute
pub mod AttributeTypeAndValue
pub mod Grammar
pub mod RdnSequence
pub mod RelativeDistinguishedName

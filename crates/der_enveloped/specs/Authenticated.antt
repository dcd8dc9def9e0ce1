-- The types of CmsAuthenticated.
-- Made by tools/asn1 from authenticated.asn1.
pub mod AuthenticatedData
pub mod Grammar

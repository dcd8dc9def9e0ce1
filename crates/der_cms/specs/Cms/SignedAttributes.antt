-- The items of SignedAttributes.
-- Made by tools/asn1 from cms.asn1.
use Rattle.der_cms.specs.declared.cms.signed_attributes.SignedAttributes.{SignedAttributes}
use Rattle.der_lists.specs.declared.set_ref.SetRef.{SetRef}
use Rattle.der_pkix.specs.declared.name.attribute.Attribute.{Attribute}

abbrev pub items_of : SignedAttributes → SetRef Attribute
items_of v = v.items.list

-- The items of UnsignedAttributes.
-- Made by tools/asn1 from cms.asn1.
use Rattle.der_cms.specs.declared.cms.unsigned_attributes.UnsignedAttributes.{UnsignedAttributes}
use Rattle.der_lists.specs.declared.unordered_set_ref.UnorderedSetRef.{UnorderedSetRef}
use Rattle.der_pkix.specs.declared.name.attribute.Attribute.{Attribute}

abbrev pub items_of : UnsignedAttributes → UnorderedSetRef Attribute
items_of v = v.items.list

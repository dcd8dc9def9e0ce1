-- The items of Attributes.
-- Made by tools/asn1 from key.asn1.
use Rattle.der_lists.specs.declared.unordered_set_ref.UnorderedSetRef.{UnorderedSetRef}
use Rattle.der_pkix.specs.declared.key.attributes.Attributes.{Attributes}
use Rattle.der_pkix.specs.declared.name.attribute.Attribute.{Attribute}

abbrev pub items_of : Attributes → UnorderedSetRef Attribute
items_of v = v.items

-- The items of RelativeDistinguishedName.
-- Made by tools/asn1 from name.asn1.
use Rattle.der_lists.specs.declared.set_ref.SetRef.{SetRef}
use Rattle.der_pkix.specs.declared.name.attribute_type_and_value.AttributeTypeAndValue.{AttributeTypeAndValue}
use Rattle.der_pkix.specs.declared.name.relative_distinguished_name.RelativeDistinguishedName.{RelativeDistinguishedName}

abbrev pub items_of : RelativeDistinguishedName → SetRef AttributeTypeAndValue
items_of v = v.items.list

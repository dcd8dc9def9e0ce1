-- The fields of AttributeTypeAndValue, by their names.
-- Made by tools/asn1 from name.asn1.
use Rattle.der_opaque.specs.declared.any_ref.AnyRef.{AnyRef}
use Rattle.der_opaque.specs.declared.object_identifier_ref.ObjectIdentifierRef.{ObjectIdentifierRef}
use Rattle.der_pkix.specs.declared.name.attribute_type_and_value.AttributeTypeAndValue.{AttributeTypeAndValue}

-- type AttributeType
abbrev pub type_ : AttributeTypeAndValue → ObjectIdentifierRef 39
type_ v = v.fields.list.first

-- value AttributeValue
abbrev pub value : AttributeTypeAndValue → AnyRef
value v = v.fields.list.rest.first

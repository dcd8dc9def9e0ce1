-- The fields of Attribute, by their names.
-- Made by tools/asn1 from name.asn1.
use Rattle.der_lists.specs.declared.unordered_set_ref.UnorderedSetRef.{UnorderedSetRef}
use Rattle.der_opaque.specs.declared.any_ref.AnyRef.{AnyRef}
use Rattle.der_opaque.specs.declared.object_identifier_ref.ObjectIdentifierRef.{ObjectIdentifierRef}
use Rattle.der_pkix.specs.declared.name.attribute.Attribute.{Attribute}

-- type AttributeType
abbrev pub type_ : Attribute → ObjectIdentifierRef 39
type_ v = v.fields.list.first

-- values SET OF AttributeValue
abbrev pub values : Attribute → UnorderedSetRef AnyRef
values v = v.fields.list.rest.first

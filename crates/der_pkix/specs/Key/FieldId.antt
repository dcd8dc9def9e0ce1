-- The fields of FieldID, by their names.
-- Made by tools/asn1 from key.asn1.
use Rattle.der_opaque.specs.declared.any_ref.AnyRef.{AnyRef}
use Rattle.der_opaque.specs.declared.object_identifier_ref.ObjectIdentifierRef.{ObjectIdentifierRef}
use Rattle.der_pkix.specs.declared.key.field_id.FieldId.{FieldId}

-- fieldType OBJECT IDENTIFIER
abbrev pub field_type : FieldId → ObjectIdentifierRef 39
field_type v = v.fields.list.first

-- parameters ANY DEFINED BY fieldType
abbrev pub parameters : FieldId → AnyRef
parameters v = v.fields.list.rest.first

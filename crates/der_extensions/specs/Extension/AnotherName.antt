-- The fields of AnotherName, by their names.
-- Made by tools/asn1 from extension.asn1.
use Rattle.der_extensions.specs.declared.extension.another_name.AnotherName.{AnotherName}
use Rattle.der_opaque.specs.declared.any_ref.AnyRef.{AnyRef}
use Rattle.der_opaque.specs.declared.object_identifier_ref.ObjectIdentifierRef.{ObjectIdentifierRef}

-- type-id OBJECT IDENTIFIER
abbrev pub type_id : AnotherName → ObjectIdentifierRef 39
type_id v = v.fields.list.first

-- value [0] EXPLICIT ANY DEFINED BY type-id
abbrev pub value : AnotherName → AnyRef
value v = v.fields.list.rest.first.fields.first

-- The fields of Extension, by their names.
-- Made by tools/asn1 from certificate.asn1.
use Rattle.std.specs.Prelude.{Bool}
use Rattle.der_opaque.specs.declared.object_identifier_ref.ObjectIdentifierRef.{ObjectIdentifierRef}
use Rattle.der_opaque.specs.declared.octet_string_ref.OctetStringRef.{OctetStringRef}
use Rattle.der_pkix.specs.declared.certificate.extension.Extension.{Extension}

-- extnID OBJECT IDENTIFIER
abbrev pub extn_id : Extension → ObjectIdentifierRef 39
extn_id v = v.fields.list.first

-- critical BOOLEAN DEFAULT FALSE
abbrev pub critical : Extension → Bool
critical v = v.fields.list.rest.first.value

-- extnValue OCTET STRING
abbrev pub extn_value : Extension → OctetStringRef
extn_value v = v.fields.list.rest.rest.first

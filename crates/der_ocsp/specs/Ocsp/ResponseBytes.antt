-- The fields of ResponseBytes, by their names.
-- Made by tools/asn1 from ocsp.asn1.
use Rattle.der_ocsp.specs.declared.ocsp.response_bytes.ResponseBytes.{ResponseBytes}
use Rattle.der_opaque.specs.declared.object_identifier_ref.ObjectIdentifierRef.{ObjectIdentifierRef}
use Rattle.der_opaque.specs.declared.octet_string_ref.OctetStringRef.{OctetStringRef}

-- responseType OBJECT IDENTIFIER
abbrev pub response_type : ResponseBytes → ObjectIdentifierRef 39
response_type v = v.fields.list.first

-- response OCTET STRING
abbrev pub response : ResponseBytes → OctetStringRef
response v = v.fields.list.rest.first

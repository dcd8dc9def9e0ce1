-- The fields of EncapsulatedContentInfo, by their names.
-- Made by tools/asn1 from cms.asn1.
use Rattle.std.specs.Prelude.{Option, option_map}
use Rattle.der_cms.specs.declared.cms.encapsulated_content_info.EncapsulatedContentInfo.{EncapsulatedContentInfo}
use Rattle.der_opaque.specs.declared.object_identifier_ref.ObjectIdentifierRef.{ObjectIdentifierRef}
use Rattle.der_opaque.specs.declared.octet_string_ref.OctetStringRef.{OctetStringRef}

-- eContentType ContentType
abbrev pub e_content_type : EncapsulatedContentInfo → ObjectIdentifierRef 39
e_content_type v = v.fields.list.first

-- eContent [0] EXPLICIT OCTET STRING OPTIONAL
abbrev pub e_content : EncapsulatedContentInfo → Option OctetStringRef
e_content v = option_map (λ x. x.fields.first) v.fields.list.rest.first

-- The fields of ContentInfo, by their names.
-- Made by tools/asn1 from cms.asn1.
use Rattle.der_cms.specs.declared.cms.content_info.ContentInfo.{ContentInfo}
use Rattle.der_opaque.specs.declared.any_ref.AnyRef.{AnyRef}
use Rattle.der_opaque.specs.declared.object_identifier_ref.ObjectIdentifierRef.{ObjectIdentifierRef}

-- contentType ContentType
abbrev pub content_type : ContentInfo → ObjectIdentifierRef 39
content_type v = v.fields.list.first

-- content [0] EXPLICIT ANY DEFINED BY contentType
abbrev pub content : ContentInfo → AnyRef
content v = v.fields.list.rest.first.fields.first

-- The fields of ContentInfo, by their names.
-- Made by tools/asn1 from pkcs12.asn1.
use Rattle.std.specs.Prelude.{Option, option_map}
use Rattle.der_opaque.specs.declared.any_ref.AnyRef.{AnyRef}
use Rattle.der_opaque.specs.declared.object_identifier_ref.ObjectIdentifierRef.{ObjectIdentifierRef}
use Rattle.der_pkcs.specs.declared.pkcs12.content_info.ContentInfo.{ContentInfo}

-- contentType OBJECT IDENTIFIER
abbrev pub content_type : ContentInfo → ObjectIdentifierRef 39
content_type v = v.fields.list.first

-- content [0] EXPLICIT ANY DEFINED BY contentType OPTIONAL
abbrev pub content : ContentInfo → Option AnyRef
content v = option_map (λ x. x.fields.first) v.fields.list.rest.first

-- The fields of TimeStampToken, by their names.
-- Made by tools/asn1 from time_stamp.asn1.
use Rattle.der_opaque.specs.declared.any_ref.AnyRef.{AnyRef}
use Rattle.der_opaque.specs.declared.object_identifier_ref.ObjectIdentifierRef.{ObjectIdentifierRef}
use Rattle.der_time_stamp.specs.declared.time_stamp.time_stamp_token.TimeStampToken.{TimeStampToken}

-- contentType OBJECT IDENTIFIER
abbrev pub content_type : TimeStampToken → ObjectIdentifierRef 39
content_type v = v.fields.list.first

-- content [0] EXPLICIT ANY DEFINED BY contentType
abbrev pub content : TimeStampToken → AnyRef
content v = v.fields.list.rest.first.fields.first

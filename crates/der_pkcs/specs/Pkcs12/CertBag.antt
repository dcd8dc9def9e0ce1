-- The fields of CertBag, by their names.
-- Made by tools/asn1 from pkcs12.asn1.
use Rattle.der_opaque.specs.declared.any_ref.AnyRef.{AnyRef}
use Rattle.der_opaque.specs.declared.object_identifier_ref.ObjectIdentifierRef.{ObjectIdentifierRef}
use Rattle.der_pkcs.specs.declared.pkcs12.cert_bag.CertBag.{CertBag}

-- certId OBJECT IDENTIFIER
abbrev pub cert_id : CertBag → ObjectIdentifierRef 39
cert_id v = v.fields.list.first

-- certValue [0] EXPLICIT ANY DEFINED BY certId
abbrev pub cert_value : CertBag → AnyRef
cert_value v = v.fields.list.rest.first.fields.first

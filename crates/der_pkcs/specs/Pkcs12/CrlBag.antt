-- The fields of CRLBag, by their names.
-- Made by tools/asn1 from pkcs12.asn1.
use Rattle.der_opaque.specs.declared.any_ref.AnyRef.{AnyRef}
use Rattle.der_opaque.specs.declared.object_identifier_ref.ObjectIdentifierRef.{ObjectIdentifierRef}
use Rattle.der_pkcs.specs.declared.pkcs12.crl_bag.CrlBag.{CrlBag}

-- crlId OBJECT IDENTIFIER
abbrev pub crl_id : CrlBag → ObjectIdentifierRef 39
crl_id v = v.fields.list.first

-- crlValue [0] EXPLICIT ANY DEFINED BY crlId
abbrev pub crl_value : CrlBag → AnyRef
crl_value v = v.fields.list.rest.first.fields.first

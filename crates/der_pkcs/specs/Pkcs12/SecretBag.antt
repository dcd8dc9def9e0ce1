-- The fields of SecretBag, by their names.
-- Made by tools/asn1 from pkcs12.asn1.
use Rattle.der_opaque.specs.declared.any_ref.AnyRef.{AnyRef}
use Rattle.der_opaque.specs.declared.object_identifier_ref.ObjectIdentifierRef.{ObjectIdentifierRef}
use Rattle.der_pkcs.specs.declared.pkcs12.secret_bag.SecretBag.{SecretBag}

-- secretTypeId OBJECT IDENTIFIER
abbrev pub secret_type_id : SecretBag → ObjectIdentifierRef 39
secret_type_id v = v.fields.list.first

-- secretValue [0] EXPLICIT ANY DEFINED BY secretTypeId
abbrev pub secret_value : SecretBag → AnyRef
secret_value v = v.fields.list.rest.first.fields.first

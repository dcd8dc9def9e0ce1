-- The fields of SafeBag, by their names.
-- Made by tools/asn1 from pkcs12.asn1.
use Rattle.std.specs.Prelude.{Option}
use Rattle.der_opaque.specs.declared.any_ref.AnyRef.{AnyRef}
use Rattle.der_opaque.specs.declared.object_identifier_ref.ObjectIdentifierRef.{ObjectIdentifierRef}
use Rattle.der_pkcs.specs.declared.pkcs12.safe_bag.SafeBag.{SafeBag}
use Rattle.der_pkix.specs.declared.key.attributes.Attributes.{Attributes}

-- bagId OBJECT IDENTIFIER
abbrev pub bag_id : SafeBag → ObjectIdentifierRef 39
bag_id v = v.fields.list.first

-- bagValue [0] EXPLICIT ANY DEFINED BY bagId
abbrev pub bag_value : SafeBag → AnyRef
bag_value v = v.fields.list.rest.first.fields.first

-- bagAttributes Attributes OPTIONAL
abbrev pub bag_attributes : SafeBag → Option Attributes
bag_attributes v = v.fields.list.rest.rest.first

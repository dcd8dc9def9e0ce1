-- The fields of PBEParameter, by their names.
-- Made by tools/asn1 from encryption.asn1.
use Rattle.std.specs.Prelude.{ℕ}
use Rattle.der_opaque.specs.declared.octet_string_ref.OctetStringRef.{OctetStringRef}
use Rattle.der_pkcs.specs.declared.encryption.pbe_parameter.PbeParameter.{PbeParameter}

-- salt OCTET STRING (SIZE (8))
abbrev pub salt : PbeParameter → OctetStringRef
salt v = v.fields.list.first

-- iterationCount INTEGER
abbrev pub iteration_count : PbeParameter → ℕ
iteration_count v = v.fields.list.rest.first

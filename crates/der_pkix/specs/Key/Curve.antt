-- The fields of Curve, by their names.
-- Made by tools/asn1 from key.asn1.
use Rattle.std.specs.Prelude.{Option}
use Rattle.der_bits.specs.declared.bit_string_ref.BitStringRef.{BitStringRef}
use Rattle.der_opaque.specs.declared.octet_string_ref.OctetStringRef.{OctetStringRef}
use Rattle.der_pkix.specs.declared.key.curve.Curve.{Curve}

-- a OCTET STRING
abbrev pub a : Curve → OctetStringRef
a v = v.fields.list.first

-- b OCTET STRING
abbrev pub b : Curve → OctetStringRef
b v = v.fields.list.rest.first

-- seed BIT STRING OPTIONAL
abbrev pub seed : Curve → Option BitStringRef
seed v = v.fields.list.rest.rest.first

-- The fields of DHParameter, by their names.
-- Made by tools/asn1 from algorithm.asn1.
use Rattle.std.specs.Prelude.{Option, ℕ}
use Rattle.der_numbers.specs.declared.uint_ref.UintRef.{UintRef}
use Rattle.der_pkcs.specs.declared.algorithm.dh_parameter.DhParameter.{DhParameter}

-- prime INTEGER (0..MAX)
abbrev pub prime : DhParameter → UintRef
prime v = v.fields.list.first

-- base INTEGER (0..MAX)
abbrev pub base : DhParameter → UintRef
base v = v.fields.list.rest.first

-- privateValueLength INTEGER (0..MAX) OPTIONAL
abbrev pub private_value_length : DhParameter → Option ℕ
private_value_length v = v.fields.list.rest.rest.first

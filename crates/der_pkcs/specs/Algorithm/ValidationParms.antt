-- The fields of ValidationParms, by their names.
-- Made by tools/asn1 from algorithm.asn1.
use Rattle.der_bits.specs.declared.bit_string_ref.BitStringRef.{BitStringRef}
use Rattle.der_numbers.specs.declared.uint_ref.UintRef.{UintRef}
use Rattle.der_pkcs.specs.declared.algorithm.validation_parms.ValidationParms.{ValidationParms}

-- seed BIT STRING
abbrev pub seed : ValidationParms → BitStringRef
seed v = v.fields.list.first

-- pgenCounter INTEGER (0..MAX)
abbrev pub pgen_counter : ValidationParms → UintRef
pgen_counter v = v.fields.list.rest.first

-- The fields of ECDSA-Sig-Value, by their names.
-- Made by tools/asn1 from algorithm.asn1.
use Rattle.der_numbers.specs.declared.uint_ref.UintRef.{UintRef}
use Rattle.der_pkcs.specs.declared.algorithm.ecdsa_sig_value.EcdsaSigValue.{EcdsaSigValue}

-- r INTEGER (0..MAX)
abbrev pub r : EcdsaSigValue → UintRef
r v = v.fields.list.first

-- s INTEGER (0..MAX)
abbrev pub s : EcdsaSigValue → UintRef
s v = v.fields.list.rest.first

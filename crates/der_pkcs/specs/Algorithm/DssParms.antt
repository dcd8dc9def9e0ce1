-- The fields of Dss-Parms, by their names.
-- Made by tools/asn1 from algorithm.asn1.
use Rattle.der_numbers.specs.declared.uint_ref.UintRef.{UintRef}
use Rattle.der_pkcs.specs.declared.algorithm.dss_parms.DssParms.{DssParms}

-- p INTEGER (0..MAX)
abbrev pub p : DssParms → UintRef
p v = v.fields.list.first

-- q INTEGER (0..MAX)
abbrev pub q : DssParms → UintRef
q v = v.fields.list.rest.first

-- g INTEGER (0..MAX)
abbrev pub g : DssParms → UintRef
g v = v.fields.list.rest.rest.first

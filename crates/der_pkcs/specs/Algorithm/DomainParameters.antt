-- The fields of DomainParameters, by their names.
-- Made by tools/asn1 from algorithm.asn1.
use Rattle.std.specs.Prelude.{Option}
use Rattle.der_numbers.specs.declared.uint_ref.UintRef.{UintRef}
use Rattle.der_pkcs.specs.declared.algorithm.domain_parameters.DomainParameters.{DomainParameters}
use Rattle.der_pkcs.specs.declared.algorithm.validation_parms.ValidationParms.{ValidationParms}

-- p INTEGER (0..MAX)
abbrev pub p : DomainParameters → UintRef
p v = v.fields.list.first

-- g INTEGER (0..MAX)
abbrev pub g : DomainParameters → UintRef
g v = v.fields.list.rest.first

-- q INTEGER (0..MAX)
abbrev pub q : DomainParameters → UintRef
q v = v.fields.list.rest.rest.first

-- j INTEGER (0..MAX) OPTIONAL
abbrev pub j : DomainParameters → Option UintRef
j v = v.fields.list.rest.rest.rest.first

-- validationParms ValidationParms OPTIONAL
abbrev pub validation_parms : DomainParameters → Option ValidationParms
validation_parms v = v.fields.list.rest.rest.rest.rest.first

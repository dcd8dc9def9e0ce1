-- The fields of PBKDF2-params, by their names.
-- Made by tools/asn1 from encryption.asn1.
use Rattle.std.specs.Prelude.{Option, ℕ}
use Rattle.der_pkcs.specs.declared.encryption.pbkdf2_params.Pbkdf2Params.{Pbkdf2Params}
use Rattle.der_pkcs.specs.declared.encryption.pbkdf2_salt.Pbkdf2Salt.{Pbkdf2Salt}
use Rattle.der_pkix.specs.declared.algorithm_identifier.AlgorithmIdentifier.{AlgorithmIdentifier}

-- salt CHOICE { specified OCTET STRING, otherSource AlgorithmIdentifier }
abbrev pub salt : Pbkdf2Params → Pbkdf2Salt
salt v = v.fields.list.first

-- iterationCount INTEGER (1..MAX)
abbrev pub iteration_count : Pbkdf2Params → ℕ
iteration_count v = v.fields.list.rest.first

-- keyLength INTEGER (1..MAX) OPTIONAL
abbrev pub key_length : Pbkdf2Params → Option ℕ
key_length v = v.fields.list.rest.rest.first

-- prf AlgorithmIdentifier OPTIONAL
abbrev pub prf : Pbkdf2Params → Option AlgorithmIdentifier
prf v = v.fields.list.rest.rest.rest.first

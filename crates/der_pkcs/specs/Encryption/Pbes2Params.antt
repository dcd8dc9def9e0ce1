-- The fields of PBES2-params, by their names.
-- Made by tools/asn1 from encryption.asn1.
use Rattle.der_pkcs.specs.declared.encryption.pbes2_params.Pbes2Params.{Pbes2Params}
use Rattle.der_pkix.specs.declared.algorithm_identifier.AlgorithmIdentifier.{AlgorithmIdentifier}

-- keyDerivationFunc AlgorithmIdentifier
abbrev pub key_derivation_func : Pbes2Params → AlgorithmIdentifier
key_derivation_func v = v.fields.list.first

-- encryptionScheme AlgorithmIdentifier
abbrev pub encryption_scheme : Pbes2Params → AlgorithmIdentifier
encryption_scheme v = v.fields.list.rest.first

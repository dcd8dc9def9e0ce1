-- The fields of RSAES-OAEP-params, by their names.
-- Made by tools/asn1 from algorithm.asn1.
use Rattle.std.specs.Prelude.{Option, option_map}
use Rattle.der_pkcs.specs.declared.algorithm.rsaes_oaep_params.RsaesOaepParams.{RsaesOaepParams}
use Rattle.der_pkix.specs.declared.algorithm_identifier.AlgorithmIdentifier.{AlgorithmIdentifier}

-- hashFunc [0] AlgorithmIdentifier OPTIONAL
abbrev pub hash_func : RsaesOaepParams → Option AlgorithmIdentifier
hash_func v = option_map (λ x. x.fields.first) v.fields.list.first

-- maskGenFunc [1] AlgorithmIdentifier OPTIONAL
abbrev pub mask_gen_func : RsaesOaepParams → Option AlgorithmIdentifier
mask_gen_func v = option_map (λ x. x.fields.first) v.fields.list.rest.first

-- pSourceFunc [2] AlgorithmIdentifier OPTIONAL
abbrev pub p_source_func : RsaesOaepParams → Option AlgorithmIdentifier
p_source_func v = option_map (λ x. x.fields.first) v.fields.list.rest.rest.first

-- The fields of RSASSA-PSS-params, by their names.
-- Made by tools/asn1 from algorithm.asn1.
use Rattle.std.specs.Prelude.{Option, option_map, ℕ}
use Rattle.der_pkcs.specs.declared.algorithm.rsassa_pss_params.RsassaPssParams.{RsassaPssParams}
use Rattle.der_pkix.specs.declared.algorithm_identifier.AlgorithmIdentifier.{AlgorithmIdentifier}

-- hashAlgorithm [0] AlgorithmIdentifier OPTIONAL
abbrev pub hash_algorithm : RsassaPssParams → Option AlgorithmIdentifier
hash_algorithm v = option_map (λ x. x.fields.first) v.fields.list.first

-- maskGenAlgorithm [1] AlgorithmIdentifier OPTIONAL
abbrev pub mask_gen_algorithm : RsassaPssParams → Option AlgorithmIdentifier
mask_gen_algorithm v = option_map (λ x. x.fields.first) v.fields.list.rest.first

-- saltLength [2] INTEGER OPTIONAL
abbrev pub salt_length : RsassaPssParams → Option ℕ
salt_length v = option_map (λ x. x.fields.first) v.fields.list.rest.rest.first

-- trailerField [3] INTEGER DEFAULT 1
abbrev pub trailer_field : RsassaPssParams → ℕ
trailer_field v = v.fields.list.rest.rest.rest.first.value.fields.first

-- The fields of PreferredSignatureAlgorithm, by their names.
-- Made by tools/asn1 from ocsp.asn1.
use Rattle.std.specs.Prelude.{Option}
use Rattle.der_ocsp.specs.declared.ocsp.preferred_signature_algorithm.PreferredSignatureAlgorithm.{PreferredSignatureAlgorithm}
use Rattle.der_pkix.specs.declared.algorithm_identifier.AlgorithmIdentifier.{AlgorithmIdentifier}

-- sigIdentifier AlgorithmIdentifier
abbrev pub sig_identifier : PreferredSignatureAlgorithm → AlgorithmIdentifier
sig_identifier v = v.fields.list.first

-- certIdentifier AlgorithmIdentifier OPTIONAL
abbrev pub cert_identifier : PreferredSignatureAlgorithm → Option AlgorithmIdentifier
cert_identifier v = v.fields.list.rest.first

-- The fields of Signature, by their names.
-- Made by tools/asn1 from ocsp.asn1.
use Rattle.std.specs.Prelude.{Option, option_map}
use Rattle.der_bits.specs.declared.bit_string_ref.BitStringRef.{BitStringRef}
use Rattle.der_ocsp.specs.declared.ocsp.certificates.Certificates.{Certificates}
use Rattle.der_ocsp.specs.declared.ocsp.signature.Signature.{Signature}
use Rattle.der_pkix.specs.declared.algorithm_identifier.AlgorithmIdentifier.{AlgorithmIdentifier}

-- signatureAlgorithm AlgorithmIdentifier
abbrev pub signature_algorithm : Signature → AlgorithmIdentifier
signature_algorithm v = v.fields.list.first

-- signature BIT STRING
abbrev pub signature : Signature → BitStringRef
signature v = v.fields.list.rest.first

-- certs [0] EXPLICIT Certificates OPTIONAL
abbrev pub certs : Signature → Option Certificates
certs v = option_map (λ x. x.fields.first) v.fields.list.rest.rest.first

-- The fields of BasicOCSPResponse, by their names.
-- Made by tools/asn1 from ocsp.asn1.
use Rattle.std.specs.Prelude.{Option, option_map}
use Rattle.der_bits.specs.declared.bit_string_ref.BitStringRef.{BitStringRef}
use Rattle.der_ocsp.specs.declared.ocsp.basic_ocsp_response.BasicOcspResponse.{BasicOcspResponse}
use Rattle.der_ocsp.specs.declared.ocsp.certificates.Certificates.{Certificates}
use Rattle.der_ocsp.specs.declared.ocsp.response_data.ResponseData.{ResponseData}
use Rattle.der_pkix.specs.declared.algorithm_identifier.AlgorithmIdentifier.{AlgorithmIdentifier}

-- tbsResponseData ResponseData
abbrev pub tbs_response_data : BasicOcspResponse → ResponseData
tbs_response_data v = v.fields.list.first

-- signatureAlgorithm AlgorithmIdentifier
abbrev pub signature_algorithm : BasicOcspResponse → AlgorithmIdentifier
signature_algorithm v = v.fields.list.rest.first

-- signature BIT STRING
abbrev pub signature : BasicOcspResponse → BitStringRef
signature v = v.fields.list.rest.rest.first

-- certs [0] EXPLICIT Certificates OPTIONAL
abbrev pub certs : BasicOcspResponse → Option Certificates
certs v = option_map (λ x. x.fields.first) v.fields.list.rest.rest.rest.first

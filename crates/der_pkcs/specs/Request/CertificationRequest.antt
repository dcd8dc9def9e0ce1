-- The fields of CertificationRequest, by their names.
-- Made by tools/asn1 from request.asn1.
use Rattle.der_bits.specs.declared.bit_string_ref.BitStringRef.{BitStringRef}
use Rattle.der_pkcs.specs.declared.request.certification_request.CertificationRequest.{CertificationRequest}
use Rattle.der_pkcs.specs.declared.request.certification_request_info.CertificationRequestInfo.{CertificationRequestInfo}
use Rattle.der_pkix.specs.declared.algorithm_identifier.AlgorithmIdentifier.{AlgorithmIdentifier}

-- certificationRequestInfo CertificationRequestInfo
abbrev pub certification_request_info : CertificationRequest → CertificationRequestInfo
certification_request_info v = v.fields.list.first

-- signatureAlgorithm AlgorithmIdentifier
abbrev pub signature_algorithm : CertificationRequest → AlgorithmIdentifier
signature_algorithm v = v.fields.list.rest.first

-- signature BIT STRING
abbrev pub signature : CertificationRequest → BitStringRef
signature v = v.fields.list.rest.rest.first

-- The fields of OCSPResponse, by their names.
-- Made by tools/asn1 from ocsp.asn1.
use Rattle.std.specs.Prelude.{Option, option_map}
use Rattle.der_ocsp.specs.declared.ocsp.ocsp_response.OcspResponse.{OcspResponse}
use Rattle.der_ocsp.specs.declared.ocsp.ocsp_response_status.OcspResponseStatus.{OcspResponseStatus}
use Rattle.der_ocsp.specs.declared.ocsp.response_bytes.ResponseBytes.{ResponseBytes}

-- responseStatus OCSPResponseStatus
abbrev pub response_status : OcspResponse → OcspResponseStatus
response_status v = v.fields.list.first.value

-- responseBytes [0] EXPLICIT ResponseBytes OPTIONAL
abbrev pub response_bytes : OcspResponse → Option ResponseBytes
response_bytes v = option_map (λ x. x.fields.first) v.fields.list.rest.first

-- The fields of OCSPRequest, by their names.
-- Made by tools/asn1 from ocsp.asn1.
use Rattle.std.specs.Prelude.{Option, option_map}
use Rattle.der_ocsp.specs.declared.ocsp.ocsp_request.OcspRequest.{OcspRequest}
use Rattle.der_ocsp.specs.declared.ocsp.signature.Signature.{Signature}
use Rattle.der_ocsp.specs.declared.ocsp.tbs_request.TbsRequest.{TbsRequest}

-- tbsRequest TBSRequest
abbrev pub tbs_request : OcspRequest → TbsRequest
tbs_request v = v.fields.list.first

-- optionalSignature [0] EXPLICIT Signature OPTIONAL
abbrev pub optional_signature : OcspRequest → Option Signature
optional_signature v = option_map (λ x. x.fields.first) v.fields.list.rest.first

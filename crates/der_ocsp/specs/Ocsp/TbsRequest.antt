-- The fields of TBSRequest, by their names.
-- Made by tools/asn1 from ocsp.asn1.
use Rattle.std.specs.Prelude.{Option, option_map, ℕ}
use Rattle.der_extensions.specs.declared.extension.general_name.GeneralName.{GeneralName}
use Rattle.der_ocsp.specs.declared.ocsp.requests.Requests.{Requests}
use Rattle.der_ocsp.specs.declared.ocsp.tbs_request.TbsRequest.{TbsRequest}
use Rattle.der_pkix.specs.declared.certificate.extensions.Extensions.{Extensions}

-- version [0] EXPLICIT Version DEFAULT v1
abbrev pub version : TbsRequest → ℕ
version v = v.fields.list.first.value.fields.first

-- requestorName [1] EXPLICIT GeneralName OPTIONAL
abbrev pub requestor_name : TbsRequest → Option GeneralName
requestor_name v = option_map (λ x. x.fields.first) v.fields.list.rest.first

-- requestList Requests
abbrev pub request_list : TbsRequest → Requests
request_list v = v.fields.list.rest.rest.first

-- requestExtensions [2] EXPLICIT Extensions OPTIONAL
abbrev pub request_extensions : TbsRequest → Option Extensions
request_extensions v = option_map (λ x. x.fields.first) v.fields.list.rest.rest.rest.first

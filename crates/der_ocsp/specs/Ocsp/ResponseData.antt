-- The fields of ResponseData, by their names.
-- Made by tools/asn1 from ocsp.asn1.
use Rattle.std.specs.Prelude.{Option, option_map, ℕ}
use Rattle.der_ocsp.specs.declared.ocsp.responder_id.ResponderId.{ResponderId}
use Rattle.der_ocsp.specs.declared.ocsp.response_data.ResponseData.{ResponseData}
use Rattle.der_ocsp.specs.declared.ocsp.single_responses.SingleResponses.{SingleResponses}
use Rattle.der_pkix.specs.declared.certificate.extensions.Extensions.{Extensions}
use Rattle.der_time.specs.declared.generalized_time.GeneralizedTime.{GeneralizedTime}

-- version [0] EXPLICIT Version DEFAULT v1
abbrev pub version : ResponseData → ℕ
version v = v.fields.list.first.value.fields.first

-- responderID ResponderID
abbrev pub responder_id : ResponseData → ResponderId
responder_id v = v.fields.list.rest.first

-- producedAt GeneralizedTime
abbrev pub produced_at : ResponseData → GeneralizedTime
produced_at v = v.fields.list.rest.rest.first

-- responses SingleResponses
abbrev pub responses : ResponseData → SingleResponses
responses v = v.fields.list.rest.rest.rest.first

-- responseExtensions [1] EXPLICIT Extensions OPTIONAL
abbrev pub response_extensions : ResponseData → Option Extensions
response_extensions v = option_map (λ x. x.fields.first) v.fields.list.rest.rest.rest.rest.first

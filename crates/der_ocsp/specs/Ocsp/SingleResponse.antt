-- The fields of SingleResponse, by their names.
-- Made by tools/asn1 from ocsp.asn1.
use Rattle.std.specs.Prelude.{Option, option_map}
use Rattle.der_ocsp.specs.declared.ocsp.cert_id.CertId.{CertId}
use Rattle.der_ocsp.specs.declared.ocsp.cert_status.CertStatus.{CertStatus}
use Rattle.der_ocsp.specs.declared.ocsp.single_response.SingleResponse.{SingleResponse}
use Rattle.der_pkix.specs.declared.certificate.extensions.Extensions.{Extensions}
use Rattle.der_time.specs.declared.generalized_time.GeneralizedTime.{GeneralizedTime}

-- certID CertID
abbrev pub cert_id : SingleResponse → CertId
cert_id v = v.fields.list.first

-- certStatus CertStatus
abbrev pub cert_status : SingleResponse → CertStatus
cert_status v = v.fields.list.rest.first

-- thisUpdate GeneralizedTime
abbrev pub this_update : SingleResponse → GeneralizedTime
this_update v = v.fields.list.rest.rest.first

-- nextUpdate [0] EXPLICIT GeneralizedTime OPTIONAL
abbrev pub next_update : SingleResponse → Option GeneralizedTime
next_update v = option_map (λ x. x.fields.first) v.fields.list.rest.rest.rest.first

-- singleExtensions [1] EXPLICIT Extensions OPTIONAL
abbrev pub single_extensions : SingleResponse → Option Extensions
single_extensions v = option_map (λ x. x.fields.first) v.fields.list.rest.rest.rest.rest.first

-- The fields of Request, by their names.
-- Made by tools/asn1 from ocsp.asn1.
use Rattle.std.specs.Prelude.{Option, option_map}
use Rattle.der_ocsp.specs.declared.ocsp.cert_id.CertId.{CertId}
use Rattle.der_ocsp.specs.declared.ocsp.request.Request.{Request}
use Rattle.der_pkix.specs.declared.certificate.extensions.Extensions.{Extensions}

-- reqCert CertID
abbrev pub req_cert : Request → CertId
req_cert v = v.fields.list.first

-- singleRequestExtensions [0] EXPLICIT Extensions OPTIONAL
abbrev pub single_request_extensions : Request → Option Extensions
single_request_extensions v = option_map (λ x. x.fields.first) v.fields.list.rest.first

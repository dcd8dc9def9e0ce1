-- The fields of ESSCertID, by their names.
-- Made by tools/asn1 from ess.asn1.
use Rattle.std.specs.Prelude.{Option}
use Rattle.der_cms.specs.declared.ess.ess_cert_id.EssCertId.{EssCertId}
use Rattle.der_cms.specs.declared.ess.issuer_serial.IssuerSerial.{IssuerSerial}
use Rattle.der_opaque.specs.declared.octet_string_ref.OctetStringRef.{OctetStringRef}

-- certHash Hash
abbrev pub cert_hash : EssCertId → OctetStringRef
cert_hash v = v.fields.list.first

-- issuerSerial IssuerSerial OPTIONAL
abbrev pub issuer_serial : EssCertId → Option IssuerSerial
issuer_serial v = v.fields.list.rest.first

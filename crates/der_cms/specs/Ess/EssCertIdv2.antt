-- The fields of ESSCertIDv2, by their names.
-- Made by tools/asn1 from ess.asn1.
use Rattle.std.specs.Prelude.{Option}
use Rattle.der_cms.specs.declared.ess.ess_cert_idv2.EssCertIdv2.{EssCertIdv2}
use Rattle.der_cms.specs.declared.ess.issuer_serial.IssuerSerial.{IssuerSerial}
use Rattle.der_opaque.specs.declared.octet_string_ref.OctetStringRef.{OctetStringRef}
use Rattle.der_pkix.specs.declared.algorithm_identifier.AlgorithmIdentifier.{AlgorithmIdentifier}

-- hashAlgorithm AlgorithmIdentifier OPTIONAL
abbrev pub hash_algorithm : EssCertIdv2 → Option AlgorithmIdentifier
hash_algorithm v = v.fields.list.first

-- certHash Hash
abbrev pub cert_hash : EssCertIdv2 → OctetStringRef
cert_hash v = v.fields.list.rest.first

-- issuerSerial IssuerSerial OPTIONAL
abbrev pub issuer_serial : EssCertIdv2 → Option IssuerSerial
issuer_serial v = v.fields.list.rest.rest.first

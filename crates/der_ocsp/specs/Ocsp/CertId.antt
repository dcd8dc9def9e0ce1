-- The fields of CertID, by their names.
-- Made by tools/asn1 from ocsp.asn1.
use Rattle.der_numbers.specs.declared.int_ref.IntRef.{IntRef}
use Rattle.der_ocsp.specs.declared.ocsp.cert_id.CertId.{CertId}
use Rattle.der_opaque.specs.declared.octet_string_ref.OctetStringRef.{OctetStringRef}
use Rattle.der_pkix.specs.declared.algorithm_identifier.AlgorithmIdentifier.{AlgorithmIdentifier}

-- hashAlgorithm AlgorithmIdentifier
abbrev pub hash_algorithm : CertId → AlgorithmIdentifier
hash_algorithm v = v.fields.list.first

-- issuerNameHash OCTET STRING
abbrev pub issuer_name_hash : CertId → OctetStringRef
issuer_name_hash v = v.fields.list.rest.first

-- issuerKeyHash OCTET STRING
abbrev pub issuer_key_hash : CertId → OctetStringRef
issuer_key_hash v = v.fields.list.rest.rest.first

-- serialNumber CertificateSerialNumber
abbrev pub serial_number : CertId → IntRef
serial_number v = v.fields.list.rest.rest.rest.first

-- The fields of DigestInfo, by their names.
-- Made by tools/asn1 from pkcs12.asn1.
use Rattle.der_opaque.specs.declared.octet_string_ref.OctetStringRef.{OctetStringRef}
use Rattle.der_pkcs.specs.declared.pkcs12.digest_info.DigestInfo.{DigestInfo}
use Rattle.der_pkix.specs.declared.algorithm_identifier.AlgorithmIdentifier.{AlgorithmIdentifier}

-- digestAlgorithm AlgorithmIdentifier
abbrev pub digest_algorithm : DigestInfo → AlgorithmIdentifier
digest_algorithm v = v.fields.list.first

-- digest OCTET STRING
abbrev pub digest : DigestInfo → OctetStringRef
digest v = v.fields.list.rest.first

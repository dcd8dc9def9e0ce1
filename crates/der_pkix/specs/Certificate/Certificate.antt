-- The fields of Certificate, by their names.
-- Made by tools/asn1 from certificate.asn1.
use Rattle.der_bits.specs.declared.bit_string_ref.BitStringRef.{BitStringRef}
use Rattle.der_pkix.specs.declared.algorithm_identifier.AlgorithmIdentifier.{AlgorithmIdentifier}
use Rattle.der_pkix.specs.declared.certificate.certificate.Certificate.{Certificate}
use Rattle.der_pkix.specs.declared.certificate.tbs_certificate.TbsCertificate.{TbsCertificate}

-- tbsCertificate TBSCertificate
abbrev pub tbs_certificate : Certificate → TbsCertificate
tbs_certificate v = v.fields.list.first

-- signatureAlgorithm AlgorithmIdentifier
abbrev pub signature_algorithm : Certificate → AlgorithmIdentifier
signature_algorithm v = v.fields.list.rest.first

-- signatureValue BIT STRING
abbrev pub signature_value : Certificate → BitStringRef
signature_value v = v.fields.list.rest.rest.first

-- The fields of CertificateList, by their names.
-- Made by tools/asn1 from crl.asn1.
use Rattle.der_bits.specs.declared.bit_string_ref.BitStringRef.{BitStringRef}
use Rattle.der_pkix.specs.declared.algorithm_identifier.AlgorithmIdentifier.{AlgorithmIdentifier}
use Rattle.der_pkix.specs.declared.crl.certificate_list.CertificateList.{CertificateList}
use Rattle.der_pkix.specs.declared.crl.tbs_cert_list.TbsCertList.{TbsCertList}

-- tbsCertList TBSCertList
abbrev pub tbs_cert_list : CertificateList → TbsCertList
tbs_cert_list v = v.fields.list.first

-- signatureAlgorithm AlgorithmIdentifier
abbrev pub signature_algorithm : CertificateList → AlgorithmIdentifier
signature_algorithm v = v.fields.list.rest.first

-- signatureValue BIT STRING
abbrev pub signature_value : CertificateList → BitStringRef
signature_value v = v.fields.list.rest.rest.first

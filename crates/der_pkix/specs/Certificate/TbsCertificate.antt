-- The fields of TBSCertificate, by their names.
-- Made by tools/asn1 from certificate.asn1.
use Rattle.std.specs.Prelude.{Option, option_map, ℕ}
use Rattle.der_bits.specs.declared.bit_string_ref.BitStringRef.{BitStringRef}
use Rattle.der_numbers.specs.declared.int_ref.IntRef.{IntRef}
use Rattle.der_pkix.specs.declared.algorithm_identifier.AlgorithmIdentifier.{AlgorithmIdentifier}
use Rattle.der_pkix.specs.declared.certificate.extensions.Extensions.{Extensions}
use Rattle.der_pkix.specs.declared.certificate.subject_public_key_info.SubjectPublicKeyInfo.{SubjectPublicKeyInfo}
use Rattle.der_pkix.specs.declared.certificate.tbs_certificate.TbsCertificate.{TbsCertificate}
use Rattle.der_pkix.specs.declared.certificate.validity.Validity.{Validity}
use Rattle.der_pkix.specs.declared.name.rdn_sequence.RdnSequence.{RdnSequence}

-- version [0] Version DEFAULT v1
abbrev pub version : TbsCertificate → ℕ
version v = v.fields.list.first.value.fields.first

-- serialNumber CertificateSerialNumber
abbrev pub serial_number : TbsCertificate → IntRef
serial_number v = v.fields.list.rest.first

-- signature AlgorithmIdentifier
abbrev pub signature : TbsCertificate → AlgorithmIdentifier
signature v = v.fields.list.rest.rest.first

-- issuer Name
abbrev pub issuer : TbsCertificate → RdnSequence
issuer v = v.fields.list.rest.rest.rest.first

-- validity Validity
abbrev pub validity : TbsCertificate → Validity
validity v = v.fields.list.rest.rest.rest.rest.first

-- subject Name
abbrev pub subject : TbsCertificate → RdnSequence
subject v = v.fields.list.rest.rest.rest.rest.rest.first

-- subjectPublicKeyInfo SubjectPublicKeyInfo
abbrev pub subject_public_key_info : TbsCertificate → SubjectPublicKeyInfo
subject_public_key_info v = v.fields.list.rest.rest.rest.rest.rest.rest.first

-- issuerUniqueID [1] IMPLICIT UniqueIdentifier OPTIONAL
abbrev pub issuer_unique_id : TbsCertificate → Option BitStringRef
issuer_unique_id v = option_map (λ x. x.value) v.fields.list.rest.rest.rest.rest.rest.rest.rest.first

-- subjectUniqueID [2] IMPLICIT UniqueIdentifier OPTIONAL
abbrev pub subject_unique_id : TbsCertificate → Option BitStringRef
subject_unique_id v = option_map (λ x. x.value) v.fields.list.rest.rest.rest.rest.rest.rest.rest.rest.list.first

-- extensions [3] Extensions OPTIONAL
abbrev pub extensions : TbsCertificate → Option Extensions
extensions v = option_map (λ x. x.fields.first) v.fields.list.rest.rest.rest.rest.rest.rest.rest.rest.list.rest.first

-- The fields of CertificationRequestInfo, by their names.
-- Made by tools/asn1 from request.asn1.
use Rattle.std.specs.Prelude.{ℕ}
use Rattle.der_pkcs.specs.declared.request.certification_request_info.CertificationRequestInfo.{CertificationRequestInfo}
use Rattle.der_pkix.specs.declared.certificate.subject_public_key_info.SubjectPublicKeyInfo.{SubjectPublicKeyInfo}
use Rattle.der_pkix.specs.declared.key.attributes.Attributes.{Attributes}
use Rattle.der_pkix.specs.declared.name.rdn_sequence.RdnSequence.{RdnSequence}

-- version INTEGER { v1 (0) }
abbrev pub version : CertificationRequestInfo → ℕ
version v = v.fields.list.first

-- subject Name
abbrev pub subject : CertificationRequestInfo → RdnSequence
subject v = v.fields.list.rest.first

-- subjectPKInfo SubjectPublicKeyInfo
abbrev pub subject_pk_info : CertificationRequestInfo → SubjectPublicKeyInfo
subject_pk_info v = v.fields.list.rest.rest.first

-- attributes [0] Attributes
abbrev pub attributes : CertificationRequestInfo → Attributes
attributes v = v.fields.list.rest.rest.rest.first.value

-- The fields of SubjectPublicKeyInfo, by their names.
-- Made by tools/asn1 from certificate.asn1.
use Rattle.der_bits.specs.declared.bit_string_ref.BitStringRef.{BitStringRef}
use Rattle.der_pkix.specs.declared.algorithm_identifier.AlgorithmIdentifier.{AlgorithmIdentifier}
use Rattle.der_pkix.specs.declared.certificate.subject_public_key_info.SubjectPublicKeyInfo.{SubjectPublicKeyInfo}

-- algorithm AlgorithmIdentifier
abbrev pub algorithm : SubjectPublicKeyInfo → AlgorithmIdentifier
algorithm v = v.fields.list.first

-- subjectPublicKey BIT STRING
abbrev pub subject_public_key : SubjectPublicKeyInfo → BitStringRef
subject_public_key v = v.fields.list.rest.first

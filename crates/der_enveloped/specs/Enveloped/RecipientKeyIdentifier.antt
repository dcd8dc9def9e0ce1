-- The fields of RecipientKeyIdentifier, by their names.
-- Made by tools/asn1 from enveloped.asn1.
use Rattle.std.specs.Prelude.{Option}
use Rattle.der_enveloped.specs.declared.enveloped.recipient_key_identifier.RecipientKeyIdentifier.{RecipientKeyIdentifier}
use Rattle.der_opaque.specs.declared.octet_string_ref.OctetStringRef.{OctetStringRef}
use Rattle.der_pkix.specs.declared.algorithm_identifier.AlgorithmIdentifier.{AlgorithmIdentifier}
use Rattle.der_time.specs.declared.generalized_time.GeneralizedTime.{GeneralizedTime}

-- subjectKeyIdentifier SubjectKeyIdentifier
abbrev pub subject_key_identifier : RecipientKeyIdentifier → OctetStringRef
subject_key_identifier v = v.fields.list.first

-- date GeneralizedTime OPTIONAL
abbrev pub date : RecipientKeyIdentifier → Option GeneralizedTime
date v = v.fields.list.rest.first

-- other OtherKeyAttribute OPTIONAL
abbrev pub other : RecipientKeyIdentifier → Option AlgorithmIdentifier
other v = v.fields.list.rest.rest.first

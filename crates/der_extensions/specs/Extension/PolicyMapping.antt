-- The fields of PolicyMapping, by their names.
-- Made by tools/asn1 from extension.asn1.
use Rattle.der_extensions.specs.declared.extension.policy_mapping.PolicyMapping.{PolicyMapping}
use Rattle.der_opaque.specs.declared.object_identifier_ref.ObjectIdentifierRef.{ObjectIdentifierRef}

-- issuerDomainPolicy CertPolicyId
abbrev pub issuer_domain_policy : PolicyMapping → ObjectIdentifierRef 39
issuer_domain_policy v = v.fields.list.first

-- subjectDomainPolicy CertPolicyId
abbrev pub subject_domain_policy : PolicyMapping → ObjectIdentifierRef 39
subject_domain_policy v = v.fields.list.rest.first

-- The fields of PolicyInformation, by their names.
-- Made by tools/asn1 from extension.asn1.
use Rattle.std.specs.Prelude.{Option}
use Rattle.der_extensions.specs.declared.extension.policy_information.PolicyInformation.{PolicyInformation}
use Rattle.der_extensions.specs.declared.extension.policy_qualifier_info.PolicyQualifierInfo.{PolicyQualifierInfo}
use Rattle.der_lists.specs.declared.list_ref.ListRef.{ListRef}
use Rattle.der_lists.specs.declared.non_empty_ref.NonEmptyRef.{NonEmptyRef}
use Rattle.der_opaque.specs.declared.object_identifier_ref.ObjectIdentifierRef.{ObjectIdentifierRef}

-- policyIdentifier CertPolicyId
abbrev pub policy_identifier : PolicyInformation → ObjectIdentifierRef 39
policy_identifier v = v.fields.list.first

-- policyQualifiers SEQUENCE SIZE (1..MAX) OF PolicyQualifierInfo OPTIONAL
abbrev pub policy_qualifiers : PolicyInformation → Option (NonEmptyRef (ListRef PolicyQualifierInfo))
policy_qualifiers v = v.fields.list.rest.first

-- The fields of PolicyQualifierInfo, by their names.
-- Made by tools/asn1 from extension.asn1.
use Rattle.der_extensions.specs.declared.extension.policy_qualifier_info.PolicyQualifierInfo.{PolicyQualifierInfo}
use Rattle.der_opaque.specs.declared.any_ref.AnyRef.{AnyRef}
use Rattle.der_opaque.specs.declared.object_identifier_ref.ObjectIdentifierRef.{ObjectIdentifierRef}

-- policyQualifierId PolicyQualifierId
abbrev pub policy_qualifier_id : PolicyQualifierInfo → ObjectIdentifierRef 39
policy_qualifier_id v = v.fields.list.first

-- qualifier ANY DEFINED BY policyQualifierId
abbrev pub qualifier : PolicyQualifierInfo → AnyRef
qualifier v = v.fields.list.rest.first

-- The fields of AuthenticatedData, by their names.
-- Made by tools/asn1 from authenticated.asn1.
use Rattle.std.specs.Prelude.{Option, option_map, ℕ}
use Rattle.der_cms.specs.declared.cms.encapsulated_content_info.EncapsulatedContentInfo.{EncapsulatedContentInfo}
use Rattle.der_cms.specs.declared.cms.signed_attributes.SignedAttributes.{SignedAttributes}
use Rattle.der_cms.specs.declared.cms.unsigned_attributes.UnsignedAttributes.{UnsignedAttributes}
use Rattle.der_enveloped.specs.declared.authenticated.authenticated_data.AuthenticatedData.{AuthenticatedData}
use Rattle.der_enveloped.specs.declared.enveloped.originator_info.OriginatorInfo.{OriginatorInfo}
use Rattle.der_enveloped.specs.declared.enveloped.recipient_infos.RecipientInfos.{RecipientInfos}
use Rattle.der_opaque.specs.declared.octet_string_ref.OctetStringRef.{OctetStringRef}
use Rattle.der_pkix.specs.declared.algorithm_identifier.AlgorithmIdentifier.{AlgorithmIdentifier}

-- version CMSVersion
abbrev pub version : AuthenticatedData → ℕ
version v = v.fields.list.first

-- originatorInfo [0] IMPLICIT OriginatorInfo OPTIONAL
abbrev pub originator_info : AuthenticatedData → Option OriginatorInfo
originator_info v = option_map (λ x. x.value) v.fields.list.rest.first

-- recipientInfos RecipientInfos
abbrev pub recipient_infos : AuthenticatedData → RecipientInfos
recipient_infos v = v.fields.list.rest.rest.first

-- macAlgorithm AlgorithmIdentifier
abbrev pub mac_algorithm : AuthenticatedData → AlgorithmIdentifier
mac_algorithm v = v.fields.list.rest.rest.rest.first

-- digestAlgorithm [1] AlgorithmIdentifier OPTIONAL
abbrev pub digest_algorithm : AuthenticatedData → Option AlgorithmIdentifier
digest_algorithm v = option_map (λ x. x.value) v.fields.list.rest.rest.rest.rest.first

-- encapContentInfo EncapsulatedContentInfo
abbrev pub encap_content_info : AuthenticatedData → EncapsulatedContentInfo
encap_content_info v = v.fields.list.rest.rest.rest.rest.rest.first

-- authAttrs [2] IMPLICIT AuthAttributes OPTIONAL
abbrev pub auth_attrs : AuthenticatedData → Option SignedAttributes
auth_attrs v = option_map (λ x. x.value) v.fields.list.rest.rest.rest.rest.rest.rest.first

-- mac OCTET STRING
abbrev pub mac : AuthenticatedData → OctetStringRef
mac v = v.fields.list.rest.rest.rest.rest.rest.rest.rest.first

-- unauthAttrs [3] IMPLICIT UnauthAttributes OPTIONAL
abbrev pub unauth_attrs : AuthenticatedData → Option UnsignedAttributes
unauth_attrs v = option_map (λ x. x.value) v.fields.list.rest.rest.rest.rest.rest.rest.rest.rest.list.first

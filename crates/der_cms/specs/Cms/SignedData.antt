-- The fields of SignedData, by their names.
-- Made by tools/asn1 from cms.asn1.
use Rattle.std.specs.Prelude.{Option, option_map, ℕ}
use Rattle.der_cms.specs.declared.cms.certificate_set.CertificateSet.{CertificateSet}
use Rattle.der_cms.specs.declared.cms.encapsulated_content_info.EncapsulatedContentInfo.{EncapsulatedContentInfo}
use Rattle.der_cms.specs.declared.cms.revocation_info_choices.RevocationInfoChoices.{RevocationInfoChoices}
use Rattle.der_cms.specs.declared.cms.signed_data.SignedData.{SignedData}
use Rattle.der_cms.specs.declared.cms.signer_info.SignerInfo.{SignerInfo}
use Rattle.der_lists.specs.declared.unordered_set_ref.UnorderedSetRef.{UnorderedSetRef}
use Rattle.der_pkix.specs.declared.algorithm_identifier.AlgorithmIdentifier.{AlgorithmIdentifier}

-- version CMSVersion
abbrev pub version : SignedData → ℕ
version v = v.fields.list.first

-- digestAlgorithms SET OF AlgorithmIdentifier
abbrev pub digest_algorithms : SignedData → UnorderedSetRef AlgorithmIdentifier
digest_algorithms v = v.fields.list.rest.first

-- encapContentInfo EncapsulatedContentInfo
abbrev pub encap_content_info : SignedData → EncapsulatedContentInfo
encap_content_info v = v.fields.list.rest.rest.first

-- certificates [0] IMPLICIT CertificateSet OPTIONAL
abbrev pub certificates : SignedData → Option CertificateSet
certificates v = option_map (λ x. x.value) v.fields.list.rest.rest.rest.first

-- crls [1] IMPLICIT RevocationInfoChoices OPTIONAL
abbrev pub crls : SignedData → Option RevocationInfoChoices
crls v = option_map (λ x. x.value) v.fields.list.rest.rest.rest.rest.first

-- signerInfos SET OF SignerInfo
abbrev pub signer_infos : SignedData → UnorderedSetRef SignerInfo
signer_infos v = v.fields.list.rest.rest.rest.rest.rest.first

-- The fields of DigestedData, by their names.
-- Made by tools/asn1 from cms.asn1.
use Rattle.std.specs.Prelude.{ℕ}
use Rattle.der_cms.specs.declared.cms.digested_data.DigestedData.{DigestedData}
use Rattle.der_cms.specs.declared.cms.encapsulated_content_info.EncapsulatedContentInfo.{EncapsulatedContentInfo}
use Rattle.der_opaque.specs.declared.octet_string_ref.OctetStringRef.{OctetStringRef}
use Rattle.der_pkix.specs.declared.algorithm_identifier.AlgorithmIdentifier.{AlgorithmIdentifier}

-- version CMSVersion
abbrev pub version : DigestedData → ℕ
version v = v.fields.list.first

-- digestAlgorithm AlgorithmIdentifier
abbrev pub digest_algorithm : DigestedData → AlgorithmIdentifier
digest_algorithm v = v.fields.list.rest.first

-- encapContentInfo EncapsulatedContentInfo
abbrev pub encap_content_info : DigestedData → EncapsulatedContentInfo
encap_content_info v = v.fields.list.rest.rest.first

-- digest OCTET STRING
abbrev pub digest : DigestedData → OctetStringRef
digest v = v.fields.list.rest.rest.rest.first

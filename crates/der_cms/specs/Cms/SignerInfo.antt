-- The fields of SignerInfo, by their names.
-- Made by tools/asn1 from cms.asn1.
use Rattle.std.specs.Prelude.{Option, option_map, ℕ}
use Rattle.der_cms.specs.declared.cms.signed_attributes.SignedAttributes.{SignedAttributes}
use Rattle.der_cms.specs.declared.cms.signer_identifier.SignerIdentifier.{SignerIdentifier}
use Rattle.der_cms.specs.declared.cms.signer_info.SignerInfo.{SignerInfo}
use Rattle.der_cms.specs.declared.cms.unsigned_attributes.UnsignedAttributes.{UnsignedAttributes}
use Rattle.der_opaque.specs.declared.octet_string_ref.OctetStringRef.{OctetStringRef}
use Rattle.der_pkix.specs.declared.algorithm_identifier.AlgorithmIdentifier.{AlgorithmIdentifier}

-- version CMSVersion
abbrev pub version : SignerInfo → ℕ
version v = v.fields.list.first

-- sid SignerIdentifier
abbrev pub sid : SignerInfo → SignerIdentifier
sid v = v.fields.list.rest.first

-- digestAlgorithm AlgorithmIdentifier
abbrev pub digest_algorithm : SignerInfo → AlgorithmIdentifier
digest_algorithm v = v.fields.list.rest.rest.first

-- signedAttrs [0] IMPLICIT SignedAttributes OPTIONAL
abbrev pub signed_attrs : SignerInfo → Option SignedAttributes
signed_attrs v = option_map (λ x. x.value) v.fields.list.rest.rest.rest.first

-- signatureAlgorithm AlgorithmIdentifier
abbrev pub signature_algorithm : SignerInfo → AlgorithmIdentifier
signature_algorithm v = v.fields.list.rest.rest.rest.rest.first

-- signature OCTET STRING
abbrev pub signature : SignerInfo → OctetStringRef
signature v = v.fields.list.rest.rest.rest.rest.rest.first

-- unsignedAttrs [1] IMPLICIT UnsignedAttributes OPTIONAL
abbrev pub unsigned_attrs : SignerInfo → Option UnsignedAttributes
unsigned_attrs v = option_map (λ x. x.value) v.fields.list.rest.rest.rest.rest.rest.rest.first

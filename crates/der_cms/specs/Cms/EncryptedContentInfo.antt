-- The fields of EncryptedContentInfo, by their names.
-- Made by tools/asn1 from cms.asn1.
use Rattle.std.specs.Prelude.{Option, option_map}
use Rattle.der_cms.specs.declared.cms.encrypted_content_info.EncryptedContentInfo.{EncryptedContentInfo}
use Rattle.der_opaque.specs.declared.object_identifier_ref.ObjectIdentifierRef.{ObjectIdentifierRef}
use Rattle.der_opaque.specs.declared.octet_string_ref.OctetStringRef.{OctetStringRef}
use Rattle.der_pkix.specs.declared.algorithm_identifier.AlgorithmIdentifier.{AlgorithmIdentifier}

-- contentType ContentType
abbrev pub content_type : EncryptedContentInfo → ObjectIdentifierRef 39
content_type v = v.fields.list.first

-- contentEncryptionAlgorithm AlgorithmIdentifier
abbrev pub content_encryption_algorithm : EncryptedContentInfo → AlgorithmIdentifier
content_encryption_algorithm v = v.fields.list.rest.first

-- encryptedContent [0] IMPLICIT OCTET STRING OPTIONAL
abbrev pub encrypted_content : EncryptedContentInfo → Option OctetStringRef
encrypted_content v = option_map (λ x. x.value) v.fields.list.rest.rest.first

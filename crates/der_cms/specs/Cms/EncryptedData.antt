-- The fields of EncryptedData, by their names.
-- Made by tools/asn1 from cms.asn1.
use Rattle.std.specs.Prelude.{Option, option_map, ℕ}
use Rattle.der_cms.specs.declared.cms.encrypted_content_info.EncryptedContentInfo.{EncryptedContentInfo}
use Rattle.der_cms.specs.declared.cms.encrypted_data.EncryptedData.{EncryptedData}
use Rattle.der_cms.specs.declared.cms.unsigned_attributes.UnsignedAttributes.{UnsignedAttributes}

-- version CMSVersion
abbrev pub version : EncryptedData → ℕ
version v = v.fields.list.first

-- encryptedContentInfo EncryptedContentInfo
abbrev pub encrypted_content_info : EncryptedData → EncryptedContentInfo
encrypted_content_info v = v.fields.list.rest.first

-- unprotectedAttrs [1] IMPLICIT UnprotectedAttributes OPTIONAL
abbrev pub unprotected_attrs : EncryptedData → Option UnsignedAttributes
unprotected_attrs v = option_map (λ x. x.value) v.fields.list.rest.rest.first

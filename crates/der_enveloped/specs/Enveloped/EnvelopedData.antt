-- The fields of EnvelopedData, by their names.
-- Made by tools/asn1 from enveloped.asn1.
use Rattle.std.specs.Prelude.{Option, option_map, ℕ}
use Rattle.der_cms.specs.declared.cms.encrypted_content_info.EncryptedContentInfo.{EncryptedContentInfo}
use Rattle.der_cms.specs.declared.cms.unsigned_attributes.UnsignedAttributes.{UnsignedAttributes}
use Rattle.der_enveloped.specs.declared.enveloped.enveloped_data.EnvelopedData.{EnvelopedData}
use Rattle.der_enveloped.specs.declared.enveloped.originator_info.OriginatorInfo.{OriginatorInfo}
use Rattle.der_enveloped.specs.declared.enveloped.recipient_infos.RecipientInfos.{RecipientInfos}

-- version CMSVersion
abbrev pub version : EnvelopedData → ℕ
version v = v.fields.list.first

-- originatorInfo [0] IMPLICIT OriginatorInfo OPTIONAL
abbrev pub originator_info : EnvelopedData → Option OriginatorInfo
originator_info v = option_map (λ x. x.value) v.fields.list.rest.first

-- recipientInfos RecipientInfos
abbrev pub recipient_infos : EnvelopedData → RecipientInfos
recipient_infos v = v.fields.list.rest.rest.first

-- encryptedContentInfo EncryptedContentInfo
abbrev pub encrypted_content_info : EnvelopedData → EncryptedContentInfo
encrypted_content_info v = v.fields.list.rest.rest.rest.first

-- unprotectedAttrs [1] IMPLICIT UnprotectedAttributes OPTIONAL
abbrev pub unprotected_attrs : EnvelopedData → Option UnsignedAttributes
unprotected_attrs v = option_map (λ x. x.value) v.fields.list.rest.rest.rest.rest.first

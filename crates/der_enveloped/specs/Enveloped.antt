-- The types of CmsEnveloped.
-- Made by tools/asn1 from enveloped.asn1.
pub mod EnvelopedData
pub mod Grammar
pub mod KekRecipientInfo
pub mod KeyAgreeRecipientIdentifier
pub mod KeyAgreeRecipientInfo
pub mod KeyTransRecipientInfo
pub mod OriginatorIdentifierOrKey
pub mod OriginatorInfo
pub mod PasswordRecipientInfo
pub mod RecipientEncryptedKey
pub mod RecipientEncryptedKeys
pub mod RecipientInfo
pub mod RecipientInfoFirst
pub mod RecipientInfoOther
pub mod RecipientInfos
pub mod RecipientKeyIdentifier

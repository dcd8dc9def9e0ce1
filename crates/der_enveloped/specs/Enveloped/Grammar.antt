-- The grammar of CmsEnveloped, in the words of ASN.1.
-- Made by tools/asn1 from enveloped.asn1.
use Rattle.der_cms.specs.Cms.Grammar.{certificate_set, cms_version, encrypted_content_info, issuer_and_serial_number, revocation_info_choices, signer_identifier, unprotected_attributes}
use Rattle.der_extensions.specs.Extension.Grammar.{subject_key_identifier}
use Rattle.der_lists.specs.Asn1.{SEQUENCE_OF, SET_OF_ANY_ORDER}
use Rattle.der_modules.specs.Asn1.{CHOICE, EXPLICIT, Grammar, IMPLICIT, NOT_EMPTY, OPTIONAL, SEQUENCE, context, end, field, one}
use Rattle.der_opaque.specs.Opaque.{parse_octets}
use Rattle.der_pkix.specs.Certificate.Grammar.{algorithm_identifier, subject_public_key_info}
use Rattle.der_pkix.specs.Name.Grammar.{attribute_type_and_value}
use Rattle.der_time.specs.TimeReading.{parse_generalized}
use Rattle.der_tlv.specs.declared.tag.Tag.TheVariants as tags

abbrev pub GENERALIZED_TIME : Grammar
GENERALIZED_TIME = one tags.GeneralizedTime parse_generalized

abbrev pub OCTET_STRING : Grammar
OCTET_STRING = one tags.OctetString parse_octets

-- OriginatorInfo ::= SEQUENCE {
--      certs  [0] IMPLICIT CertificateSet OPTIONAL,
--      crls   [1] IMPLICIT RevocationInfoChoices OPTIONAL }
abbrev pub originator_info : Grammar
originator_info =
    SEQUENCE
    (OPTIONAL (IMPLICIT context 0 certificate_set)
    (OPTIONAL (IMPLICIT context 1 revocation_info_choices)
    end))

-- RecipientIdentifier ::= SignerIdentifier
abbrev pub recipient_identifier : Grammar
recipient_identifier =
    signer_identifier

-- KeyTransRecipientInfo ::= SEQUENCE {
--      version                 CMSVersion, -- always set to 0 or 2
--      rid                     RecipientIdentifier,
--      keyEncryptionAlgorithm  AlgorithmIdentifier,
--      encryptedKey            OCTET STRING }
abbrev pub key_trans_recipient_info : Grammar
key_trans_recipient_info =
    SEQUENCE
    (field cms_version
    (field recipient_identifier
    (field algorithm_identifier
    (field OCTET_STRING
    end))))

-- OriginatorPublicKey ::= SubjectPublicKeyInfo
abbrev pub originator_public_key : Grammar
originator_public_key =
    subject_public_key_info

-- OriginatorIdentifierOrKey ::= CHOICE {
--      issuerAndSerialNumber     IssuerAndSerialNumber,
--      subjectKeyIdentifier  [0] SubjectKeyIdentifier,
--      originatorKey         [1] OriginatorPublicKey }
abbrev pub originator_identifier_or_key : Grammar
originator_identifier_or_key =
    CHOICE
    (CHOICE
    issuer_and_serial_number
    (IMPLICIT context 0 subject_key_identifier))
    (IMPLICIT context 1 originator_public_key)

-- UserKeyingMaterial ::= OCTET STRING
abbrev pub user_keying_material : Grammar
user_keying_material =
    OCTET_STRING

-- OtherKeyAttribute ::= AlgorithmIdentifier
abbrev pub other_key_attribute : Grammar
other_key_attribute =
    algorithm_identifier

-- RecipientKeyIdentifier ::= SEQUENCE {
--      subjectKeyIdentifier  SubjectKeyIdentifier,
--      date                  GeneralizedTime OPTIONAL,
--      other                 OtherKeyAttribute OPTIONAL }
abbrev pub recipient_key_identifier : Grammar
recipient_key_identifier =
    SEQUENCE
    (field subject_key_identifier
    (OPTIONAL GENERALIZED_TIME
    (OPTIONAL other_key_attribute
    end)))

-- KeyAgreeRecipientIdentifier ::= CHOICE {
--      issuerAndSerialNumber  IssuerAndSerialNumber,
--      rKeyId                 [0] IMPLICIT RecipientKeyIdentifier }
abbrev pub key_agree_recipient_identifier : Grammar
key_agree_recipient_identifier =
    CHOICE
    issuer_and_serial_number
    (IMPLICIT context 0 recipient_key_identifier)

-- RecipientEncryptedKey ::= SEQUENCE {
--      rid           KeyAgreeRecipientIdentifier,
--      encryptedKey  OCTET STRING }
abbrev pub recipient_encrypted_key : Grammar
recipient_encrypted_key =
    SEQUENCE
    (field key_agree_recipient_identifier
    (field OCTET_STRING
    end))

-- RecipientEncryptedKeys ::= SEQUENCE OF RecipientEncryptedKey
abbrev pub recipient_encrypted_keys : Grammar
recipient_encrypted_keys =
    SEQUENCE_OF recipient_encrypted_key

-- KeyAgreeRecipientInfo ::= SEQUENCE {
--      version                 CMSVersion, -- always set to 3
--      originator              [0] EXPLICIT OriginatorIdentifierOrKey,
--      ukm                     [1] EXPLICIT UserKeyingMaterial OPTIONAL,
--      keyEncryptionAlgorithm  AlgorithmIdentifier,
--      recipientEncryptedKeys  RecipientEncryptedKeys }
abbrev pub key_agree_recipient_info : Grammar
key_agree_recipient_info =
    SEQUENCE
    (field cms_version
    (field (EXPLICIT context 0 originator_identifier_or_key)
    (OPTIONAL (EXPLICIT context 1 user_keying_material)
    (field algorithm_identifier
    (field recipient_encrypted_keys
    end)))))

-- KEKIdentifier ::= RecipientKeyIdentifier
abbrev pub kek_identifier : Grammar
kek_identifier =
    recipient_key_identifier

-- KEKRecipientInfo ::= SEQUENCE {
--      version                 CMSVersion, -- always set to 4
--      kekid                   KEKIdentifier,
--      keyEncryptionAlgorithm  AlgorithmIdentifier,
--      encryptedKey            OCTET STRING }
abbrev pub kek_recipient_info : Grammar
kek_recipient_info =
    SEQUENCE
    (field cms_version
    (field kek_identifier
    (field algorithm_identifier
    (field OCTET_STRING
    end))))

-- PasswordRecipientInfo ::= SEQUENCE {
--      version                 CMSVersion, -- always set to 0
--      keyDerivationAlgorithm  [0] AlgorithmIdentifier OPTIONAL,
--      keyEncryptionAlgorithm  AlgorithmIdentifier,
--      encryptedKey            OCTET STRING }
abbrev pub password_recipient_info : Grammar
password_recipient_info =
    SEQUENCE
    (field cms_version
    (OPTIONAL (IMPLICIT context 0 algorithm_identifier)
    (field algorithm_identifier
    (field OCTET_STRING
    end))))

-- OtherRecipientInfo ::= AttributeTypeAndValue
abbrev pub other_recipient_info : Grammar
other_recipient_info =
    attribute_type_and_value

-- RecipientInfo ::= CHOICE {
--      ktri       KeyTransRecipientInfo,
--      kari   [1] KeyAgreeRecipientInfo,
--      kekri  [2] KEKRecipientInfo,
--      pwri   [3] PasswordRecipientInfo,
--      ori    [4] OtherRecipientInfo }
abbrev pub recipient_info : Grammar
recipient_info =
    CHOICE
    (CHOICE
    (CHOICE
    key_trans_recipient_info
    (IMPLICIT context 1 key_agree_recipient_info))
    (IMPLICIT context 2 kek_recipient_info))
    (CHOICE
    (IMPLICIT context 3 password_recipient_info)
    (IMPLICIT context 4 other_recipient_info))

-- RecipientInfos ::= SET SIZE (1..MAX) OF RecipientInfo
abbrev pub recipient_infos : Grammar
recipient_infos =
    NOT_EMPTY (SET_OF_ANY_ORDER recipient_info)

-- EnvelopedData ::= SEQUENCE {
--      version               CMSVersion,
--      originatorInfo        [0] IMPLICIT OriginatorInfo OPTIONAL,
--      recipientInfos        RecipientInfos,
--      encryptedContentInfo  EncryptedContentInfo,
--      unprotectedAttrs      [1] IMPLICIT UnprotectedAttributes OPTIONAL }
abbrev pub enveloped_data : Grammar
enveloped_data =
    SEQUENCE
    (field cms_version
    (OPTIONAL (IMPLICIT context 0 originator_info)
    (field recipient_infos
    (field encrypted_content_info
    (OPTIONAL (IMPLICIT context 1 unprotected_attributes)
    end)))))

-- The grammar of CmsSigned, in the words of ASN.1.
-- Made by tools/asn1 from cms.asn1.
use Rattle.std.specs.Prelude.{true}
use Rattle.der_elem.specs.IntegerReading.{parse_unsigned}
use Rattle.der_extensions.specs.Extension.Grammar.{subject_key_identifier}
use Rattle.der_lists.specs.Asn1.{SET_OF, SET_OF_ANY_ORDER}
use Rattle.der_modules.specs.Asn1.{CHOICE, EXPLICIT, Grammar, IMPLICIT, NOT_EMPTY, OPTIONAL, SEQUENCE, any_of, context, end, field, one}
use Rattle.der_opaque.specs.AnyForm.{parse_any}
use Rattle.der_opaque.specs.ObjectIdentifierOctets.{parse_identifier}
use Rattle.der_opaque.specs.Opaque.{parse_octets}
use Rattle.der_pkix.specs.Certificate.Grammar.{algorithm_identifier, certificate, certificate_serial_number, time}
use Rattle.der_pkix.specs.Crl.Grammar.{certificate_list}
use Rattle.der_pkix.specs.Name.Grammar.{attribute, attribute_type_and_value, name}
use Rattle.der_tlv.specs.declared.tag.Tag.TheVariants as tags

abbrev pub ANY : Grammar
ANY = any_of (λ t. true) parse_any

abbrev pub INTEGER_u8 : Grammar
INTEGER_u8 = one tags.Integer (parse_unsigned 1)

abbrev pub OBJECT_IDENTIFIER_39 : Grammar
OBJECT_IDENTIFIER_39 = one tags.ObjectIdentifier (parse_identifier 39)

abbrev pub OCTET_STRING : Grammar
OCTET_STRING = one tags.OctetString parse_octets

abbrev pub UNREAD_SEQUENCE : Grammar
UNREAD_SEQUENCE = one tags.Sequence parse_octets

-- ContentType ::= OBJECT IDENTIFIER
abbrev pub content_type : Grammar
content_type =
    OBJECT_IDENTIFIER_39

-- ContentInfo ::= SEQUENCE {
--      contentType  ContentType,
--      content      [0] EXPLICIT ANY DEFINED BY contentType }
abbrev pub content_info : Grammar
content_info =
    SEQUENCE
    (field content_type
    (field (EXPLICIT context 0 ANY)
    end))

-- CMSVersion ::= INTEGER { v0(0), v1(1), v2(2), v3(3), v4(4), v5(5) }
abbrev pub cms_version : Grammar
cms_version =
    INTEGER_u8

-- EncapsulatedContentInfo ::= SEQUENCE {
--      eContentType  ContentType,
--      eContent      [0] EXPLICIT OCTET STRING OPTIONAL }
abbrev pub encapsulated_content_info : Grammar
encapsulated_content_info =
    SEQUENCE
    (field content_type
    (OPTIONAL (EXPLICIT context 0 OCTET_STRING)
    end))

-- OtherCertificateFormat ::= AttributeTypeAndValue
abbrev pub other_certificate_format : Grammar
other_certificate_format =
    attribute_type_and_value

-- CertificateChoices ::= CHOICE {
--      certificate              Certificate,
--      extendedCertificate  [0] IMPLICIT ExtendedCertificate,
--      v1AttrCert           [1] IMPLICIT AttributeCertificateV1,
--      v2AttrCert           [2] IMPLICIT AttributeCertificateV2,
--      other                [3] IMPLICIT OtherCertificateFormat }
abbrev pub certificate_choices : Grammar
certificate_choices =
    CHOICE
    (CHOICE
    (CHOICE
    certificate
    (IMPLICIT context 0 UNREAD_SEQUENCE))
    (IMPLICIT context 1 UNREAD_SEQUENCE))
    (CHOICE
    (IMPLICIT context 2 UNREAD_SEQUENCE)
    (IMPLICIT context 3 other_certificate_format))

-- CertificateSet ::= SET OF CertificateChoices
abbrev pub certificate_set : Grammar
certificate_set =
    SET_OF_ANY_ORDER certificate_choices

-- OtherRevocationInfoFormat ::= AttributeTypeAndValue
abbrev pub other_revocation_info_format : Grammar
other_revocation_info_format =
    attribute_type_and_value

-- RevocationInfoChoice ::= CHOICE {
--      crl        CertificateList,
--      other  [1] IMPLICIT OtherRevocationInfoFormat }
abbrev pub revocation_info_choice : Grammar
revocation_info_choice =
    CHOICE
    certificate_list
    (IMPLICIT context 1 other_revocation_info_format)

-- RevocationInfoChoices ::= SET OF RevocationInfoChoice
abbrev pub revocation_info_choices : Grammar
revocation_info_choices =
    SET_OF_ANY_ORDER revocation_info_choice

-- IssuerAndSerialNumber ::= SEQUENCE {
--      issuer        Name,
--      serialNumber  CertificateSerialNumber }
abbrev pub issuer_and_serial_number : Grammar
issuer_and_serial_number =
    SEQUENCE
    (field name
    (field certificate_serial_number
    end))

-- SignerIdentifier ::= CHOICE {
--      issuerAndSerialNumber     IssuerAndSerialNumber,
--      subjectKeyIdentifier  [0] SubjectKeyIdentifier }
abbrev pub signer_identifier : Grammar
signer_identifier =
    CHOICE
    issuer_and_serial_number
    (IMPLICIT context 0 subject_key_identifier)

-- SignedAttributes ::= SET SIZE (1..MAX) OF Attribute
abbrev pub signed_attributes : Grammar
signed_attributes =
    NOT_EMPTY (SET_OF attribute)

-- UnsignedAttributes ::= SET SIZE (1..MAX) OF Attribute
abbrev pub unsigned_attributes : Grammar
unsigned_attributes =
    NOT_EMPTY (SET_OF_ANY_ORDER attribute)

-- SignerInfo ::= SEQUENCE {
--      version             CMSVersion,
--      sid                 SignerIdentifier,
--      digestAlgorithm     AlgorithmIdentifier,
--      signedAttrs         [0] IMPLICIT SignedAttributes OPTIONAL,
--      signatureAlgorithm  AlgorithmIdentifier,
--      signature           OCTET STRING,
--      unsignedAttrs       [1] IMPLICIT UnsignedAttributes OPTIONAL }
abbrev pub signer_info : Grammar
signer_info =
    SEQUENCE
    (field cms_version
    (field signer_identifier
    (field algorithm_identifier
    (OPTIONAL (IMPLICIT context 0 signed_attributes)
    (field algorithm_identifier
    (field OCTET_STRING
    (OPTIONAL (IMPLICIT context 1 unsigned_attributes)
    end)))))))

-- SignedData ::= SEQUENCE {
--      version           CMSVersion,
--      digestAlgorithms  SET OF AlgorithmIdentifier,
--      encapContentInfo  EncapsulatedContentInfo,
--      certificates      [0] IMPLICIT CertificateSet OPTIONAL,
--      crls              [1] IMPLICIT RevocationInfoChoices OPTIONAL,
--      signerInfos       SET OF SignerInfo
-- }
abbrev pub signed_data : Grammar
signed_data =
    SEQUENCE
    (field cms_version
    (field (SET_OF_ANY_ORDER algorithm_identifier)
    (field encapsulated_content_info
    (OPTIONAL (IMPLICIT context 0 certificate_set)
    (OPTIONAL (IMPLICIT context 1 revocation_info_choices)
    (field (SET_OF_ANY_ORDER signer_info)
    end))))))

-- DigestedData ::= SEQUENCE {
--      version           CMSVersion,
--      digestAlgorithm   AlgorithmIdentifier,
--      encapContentInfo  EncapsulatedContentInfo,
--      digest            OCTET STRING }
abbrev pub digested_data : Grammar
digested_data =
    SEQUENCE
    (field cms_version
    (field algorithm_identifier
    (field encapsulated_content_info
    (field OCTET_STRING
    end))))

-- EncryptedContentInfo ::= SEQUENCE {
--      contentType                 ContentType,
--      contentEncryptionAlgorithm  AlgorithmIdentifier,
--      encryptedContent            [0] IMPLICIT OCTET STRING OPTIONAL }
abbrev pub encrypted_content_info : Grammar
encrypted_content_info =
    SEQUENCE
    (field content_type
    (field algorithm_identifier
    (OPTIONAL (IMPLICIT context 0 OCTET_STRING)
    end)))

-- UnprotectedAttributes ::= UnsignedAttributes
abbrev pub unprotected_attributes : Grammar
unprotected_attributes =
    unsigned_attributes

-- EncryptedData ::= SEQUENCE {
--      version               CMSVersion,
--      encryptedContentInfo  EncryptedContentInfo,
--      unprotectedAttrs      [1] IMPLICIT UnprotectedAttributes OPTIONAL }
abbrev pub encrypted_data : Grammar
encrypted_data =
    SEQUENCE
    (field cms_version
    (field encrypted_content_info
    (OPTIONAL (IMPLICIT context 1 unprotected_attributes)
    end)))

-- MessageDigest ::= OCTET STRING
abbrev pub message_digest : Grammar
message_digest =
    OCTET_STRING

-- SigningTime ::= Time
abbrev pub signing_time : Grammar
signing_time =
    time

-- Countersignature ::= SignerInfo
abbrev pub countersignature : Grammar
countersignature =
    signer_info

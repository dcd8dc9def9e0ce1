-- The grammar of PkixCertificates, in the words of ASN.1.
-- Made by tools/asn1 from certificate.asn1.
use Rattle.std.specs.Prelude.{false, true}
use Rattle.der_bits.specs.BitString.{parse_bit_string}
use Rattle.der_elem.specs.Boolean.{boolean_contents, parse_boolean}
use Rattle.der_elem.specs.Integer.{natural_contents}
use Rattle.der_elem.specs.IntegerReading.{parse_unsigned}
use Rattle.der_fields.specs.MarkerTags.{marker_tag}
use Rattle.der_lists.specs.Asn1.{SEQUENCE_OF}
use Rattle.der_modules.specs.Asn1.{CHOICE, DEFAULT, EXPLICIT, Grammar, IMPLICIT, NOT_EMPTY, OPTIONAL, SEQUENCE, any_of, context, end, field, one}
use Rattle.der_numbers.specs.AnyLength.{parse_integer}
use Rattle.der_opaque.specs.AnyForm.{parse_any}
use Rattle.der_opaque.specs.ObjectIdentifierOctets.{parse_identifier}
use Rattle.der_opaque.specs.Opaque.{parse_octets}
use Rattle.der_pkix.specs.Name.Grammar.{name}
use Rattle.der_time.specs.TimeReading.{parse_generalized, parse_utc}
use Rattle.der_tlv.specs.HeaderOctets.{tlv}
use Rattle.der_tlv.specs.declared.tag.Tag.TheVariants as tags

abbrev pub ANY : Grammar
ANY = any_of (λ t. true) parse_any

abbrev pub BIT_STRING : Grammar
BIT_STRING = one tags.BitString parse_bit_string

abbrev pub BOOLEAN : Grammar
BOOLEAN = one tags.Boolean parse_boolean

abbrev pub GENERALIZED_TIME : Grammar
GENERALIZED_TIME = one tags.GeneralizedTime parse_generalized

abbrev pub INTEGER : Grammar
INTEGER = one tags.Integer parse_integer

abbrev pub INTEGER_u8 : Grammar
INTEGER_u8 = one tags.Integer (parse_unsigned 1)

abbrev pub OBJECT_IDENTIFIER_39 : Grammar
OBJECT_IDENTIFIER_39 = one tags.ObjectIdentifier (parse_identifier 39)

abbrev pub OCTET_STRING : Grammar
OCTET_STRING = one tags.OctetString parse_octets

abbrev pub UTC_TIME : Grammar
UTC_TIME = one tags.UtcTime parse_utc

-- Version ::= INTEGER { v1(0), v2(1), v3(2) }
abbrev pub version : Grammar
version =
    INTEGER_u8

-- CertificateSerialNumber ::= INTEGER
abbrev pub certificate_serial_number : Grammar
certificate_serial_number =
    INTEGER

-- AlgorithmIdentifier ::= SEQUENCE {
--      algorithm   OBJECT IDENTIFIER,
--      parameters  ANY DEFINED BY algorithm OPTIONAL }
abbrev pub algorithm_identifier : Grammar
algorithm_identifier =
    SEQUENCE
    (field OBJECT_IDENTIFIER_39
    (OPTIONAL ANY
    end))

-- Time ::= CHOICE {
--      utcTime      UTCTime,
--      generalTime  GeneralizedTime }
abbrev pub time : Grammar
time =
    CHOICE
    UTC_TIME
    GENERALIZED_TIME

-- Validity ::= SEQUENCE {
--      notBefore  Time,
--      notAfter   Time }
abbrev pub validity : Grammar
validity =
    SEQUENCE
    (field time
    (field time
    end))

-- SubjectPublicKeyInfo ::= SEQUENCE {
--      algorithm         AlgorithmIdentifier,
--      subjectPublicKey  BIT STRING }
abbrev pub subject_public_key_info : Grammar
subject_public_key_info =
    SEQUENCE
    (field algorithm_identifier
    (field BIT_STRING
    end))

-- UniqueIdentifier ::= BIT STRING
abbrev pub unique_identifier : Grammar
unique_identifier =
    BIT_STRING

-- Extension ::= SEQUENCE {
--      extnID     OBJECT IDENTIFIER,
--      critical   BOOLEAN DEFAULT FALSE,
--      extnValue  OCTET STRING }
abbrev pub extension : Grammar
extension =
    SEQUENCE
    (field OBJECT_IDENTIFIER_39
    (DEFAULT (tlv tags.Boolean (boolean_contents false)) BOOLEAN
    (field OCTET_STRING
    end)))

-- Extensions ::= SEQUENCE SIZE (1..MAX) OF Extension
abbrev pub extensions : Grammar
extensions =
    NOT_EMPTY (SEQUENCE_OF extension)

-- TBSCertificate ::= SEQUENCE {
--      version          [0]  Version DEFAULT v1,
--      serialNumber          CertificateSerialNumber,
--      signature             AlgorithmIdentifier,
--      issuer                Name,
--      validity              Validity,
--      subject               Name,
--      subjectPublicKeyInfo  SubjectPublicKeyInfo,
--      issuerUniqueID   [1]  IMPLICIT UniqueIdentifier OPTIONAL,
--                            -- If present, version MUST be v2 or v3
--      subjectUniqueID  [2]  IMPLICIT UniqueIdentifier OPTIONAL,
--                            -- If present, version MUST be v2 or v3
--      extensions       [3]  Extensions OPTIONAL }
abbrev pub tbs_certificate : Grammar
tbs_certificate =
    SEQUENCE
    (DEFAULT (tlv (marker_tag context true 0) (tlv tags.Integer (natural_contents 0))) (EXPLICIT context 0 version)
    (field certificate_serial_number
    (field algorithm_identifier
    (field name
    (field validity
    (field name
    (field subject_public_key_info
    (OPTIONAL (IMPLICIT context 1 unique_identifier)
    (OPTIONAL (IMPLICIT context 2 unique_identifier)
    (OPTIONAL (EXPLICIT context 3 extensions)
    end))))))))))

-- Certificate ::= SEQUENCE {
--      tbsCertificate      TBSCertificate,
--      signatureAlgorithm  AlgorithmIdentifier,
--      signatureValue      BIT STRING }
abbrev pub certificate : Grammar
certificate =
    SEQUENCE
    (field tbs_certificate
    (field algorithm_identifier
    (field BIT_STRING
    end)))

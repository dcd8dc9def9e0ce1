-- The grammar of PKIXTSP, in the words of ASN.1.
-- Made by tools/asn1 from time_stamp.asn1.
use Rattle.std.specs.Prelude.{false, true}
use Rattle.der_bits.specs.NamedBits.{parse_named_bits}
use Rattle.der_elem.specs.Boolean.{boolean_contents, parse_boolean}
use Rattle.der_elem.specs.IntegerReading.{parse_unsigned}
use Rattle.der_elem.specs.Utf8String.{parse_utf8}
use Rattle.der_extensions.specs.Extension.Grammar.{general_name}
use Rattle.der_lists.specs.Asn1.{SEQUENCE_OF}
use Rattle.der_modules.specs.Asn1.{DEFAULT, EXPLICIT, Grammar, IMPLICIT, NOT_EMPTY, OPTIONAL, SEQUENCE, any_of, context, end, field, one}
use Rattle.der_numbers.specs.AnyLength.{parse_integer}
use Rattle.der_opaque.specs.AnyForm.{parse_any}
use Rattle.der_opaque.specs.ObjectIdentifierOctets.{parse_identifier}
use Rattle.der_opaque.specs.Opaque.{parse_octets}
use Rattle.der_pkix.specs.Certificate.Grammar.{algorithm_identifier, extensions}
use Rattle.der_simple.specs.FractionalTimes.{parse_fractional_time}
use Rattle.der_tlv.specs.HeaderOctets.{tlv}
use Rattle.der_tlv.specs.declared.tag.Tag.TheVariants as tags

abbrev pub ANY : Grammar
ANY = any_of (λ t. true) parse_any

abbrev pub BOOLEAN : Grammar
BOOLEAN = one tags.Boolean parse_boolean

abbrev pub FRACTIONAL_TIME : Grammar
FRACTIONAL_TIME = one tags.GeneralizedTime parse_fractional_time

abbrev pub INTEGER : Grammar
INTEGER = one tags.Integer parse_integer

abbrev pub INTEGER_u16 : Grammar
INTEGER_u16 = one tags.Integer (parse_unsigned 2)

abbrev pub INTEGER_u32 : Grammar
INTEGER_u32 = one tags.Integer (parse_unsigned 4)

abbrev pub INTEGER_u8 : Grammar
INTEGER_u8 = one tags.Integer (parse_unsigned 1)

abbrev pub NAMED_BITS : Grammar
NAMED_BITS = one tags.BitString parse_named_bits

abbrev pub OBJECT_IDENTIFIER_39 : Grammar
OBJECT_IDENTIFIER_39 = one tags.ObjectIdentifier (parse_identifier 39)

abbrev pub OCTET_STRING : Grammar
OCTET_STRING = one tags.OctetString parse_octets

abbrev pub UTF8_STRING : Grammar
UTF8_STRING = one tags.Utf8String parse_utf8

-- a type within another: TimeStampReqVersion
abbrev pub time_stamp_req_version : Grammar
time_stamp_req_version =
    INTEGER_u8

-- MessageImprint ::= SEQUENCE {
--      hashAlgorithm  AlgorithmIdentifier,
--      hashedMessage  OCTET STRING }
abbrev pub message_imprint : Grammar
message_imprint =
    SEQUENCE
    (field algorithm_identifier
    (field OCTET_STRING
    end))

-- TSAPolicyId ::= OBJECT IDENTIFIER
abbrev pub tsa_policy_id : Grammar
tsa_policy_id =
    OBJECT_IDENTIFIER_39

-- TimeStampReq ::= SEQUENCE {
--      version         INTEGER { v1(1) },
--      messageImprint  MessageImprint,
--      reqPolicy       TSAPolicyId OPTIONAL,
--      nonce           INTEGER OPTIONAL,
--      certReq         BOOLEAN DEFAULT FALSE,
--      extensions      [0] IMPLICIT Extensions OPTIONAL }
abbrev pub time_stamp_req : Grammar
time_stamp_req =
    SEQUENCE
    (field time_stamp_req_version
    (field message_imprint
    (OPTIONAL tsa_policy_id
    (OPTIONAL INTEGER
    (DEFAULT (tlv tags.Boolean (boolean_contents false)) BOOLEAN
    (OPTIONAL (IMPLICIT context 0 extensions)
    end))))))

-- PKIStatus ::= INTEGER {
--      granted                 (0),
--      grantedWithMods         (1),
--      rejection               (2),
--      waiting                 (3),
--      revocationWarning       (4),
--      revocationNotification  (5) }
abbrev pub pki_status : Grammar
pki_status =
    INTEGER_u8

-- PKIFreeText ::= SEQUENCE SIZE (1..MAX) OF UTF8String
abbrev pub pki_free_text : Grammar
pki_free_text =
    NOT_EMPTY (SEQUENCE_OF UTF8_STRING)

-- PKIFailureInfo ::= BIT STRING {
--      badAlg                (0),
--      badRequest            (2),
--      badDataFormat         (5),
--      timeNotAvailable     (14),
--      unacceptedPolicy     (15),
--      unacceptedExtension  (16),
--      addInfoNotAvailable  (17),
--      systemFailure        (25) }
abbrev pub pki_failure_info : Grammar
pki_failure_info =
    NAMED_BITS

-- PKIStatusInfo ::= SEQUENCE {
--      status        PKIStatus,
--      statusString  PKIFreeText OPTIONAL,
--      failInfo      PKIFailureInfo OPTIONAL }
abbrev pub pki_status_info : Grammar
pki_status_info =
    SEQUENCE
    (field pki_status
    (OPTIONAL pki_free_text
    (OPTIONAL pki_failure_info
    end)))

-- TimeStampToken ::= SEQUENCE {
--      contentType  OBJECT IDENTIFIER,
--      content      [0] EXPLICIT ANY DEFINED BY contentType }
abbrev pub time_stamp_token : Grammar
time_stamp_token =
    SEQUENCE
    (field OBJECT_IDENTIFIER_39
    (field (EXPLICIT context 0 ANY)
    end))

-- TimeStampResp ::= SEQUENCE {
--      status          PKIStatusInfo,
--      timeStampToken  TimeStampToken OPTIONAL }
abbrev pub time_stamp_resp : Grammar
time_stamp_resp =
    SEQUENCE
    (field pki_status_info
    (OPTIONAL time_stamp_token
    end))

-- a type within another: TstInfoVersion
abbrev pub tst_info_version : Grammar
tst_info_version =
    INTEGER_u8

-- Accuracy ::= SEQUENCE {
--      seconds      INTEGER OPTIONAL,
--      millis   [0] INTEGER (1..999) OPTIONAL,
--      micros   [1] INTEGER (1..999) OPTIONAL }
abbrev pub accuracy : Grammar
accuracy =
    SEQUENCE
    (OPTIONAL INTEGER_u32
    (OPTIONAL (IMPLICIT context 0 INTEGER_u16)
    (OPTIONAL (IMPLICIT context 1 INTEGER_u16)
    end)))

-- TSTInfo ::= SEQUENCE {
--      version         INTEGER { v1(1) },
--      policy          TSAPolicyId,
--      messageImprint  MessageImprint,
--      serialNumber    INTEGER,
--      genTime         GeneralizedTime,
--      accuracy        Accuracy OPTIONAL,
--      ordering        BOOLEAN DEFAULT FALSE,
--      nonce           INTEGER OPTIONAL,
--      tsa             [0] GeneralName OPTIONAL,
--      extensions      [1] IMPLICIT Extensions OPTIONAL }
abbrev pub tst_info : Grammar
tst_info =
    SEQUENCE
    (field tst_info_version
    (field tsa_policy_id
    (field message_imprint
    (field INTEGER
    (field FRACTIONAL_TIME
    (OPTIONAL accuracy
    (DEFAULT (tlv tags.Boolean (boolean_contents false)) BOOLEAN
    (OPTIONAL INTEGER
    (OPTIONAL (IMPLICIT context 0 general_name)
    (OPTIONAL (IMPLICIT context 1 extensions)
    end))))))))))

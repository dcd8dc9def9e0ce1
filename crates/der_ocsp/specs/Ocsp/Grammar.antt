-- The grammar of OCSP-2013-88, in the words of ASN.1.
-- Made by tools/asn1 from ocsp.asn1.
use Rattle.std.specs.Prelude.{true}
use Rattle.der_ascii.specs.Characters.{parse_string}
use Rattle.der_bits.specs.BitString.{parse_bit_string}
use Rattle.der_elem.specs.Integer.{natural_contents}
use Rattle.der_elem.specs.IntegerReading.{parse_unsigned}
use Rattle.der_elem.specs.Null.{parse_null}
use Rattle.der_extensions.specs.Extension.Grammar.{authority_info_access_syntax, crl_reason, general_name}
use Rattle.der_fields.specs.MarkerTags.{marker_tag}
use Rattle.der_lists.specs.Asn1.{SEQUENCE_OF}
use Rattle.der_modules.specs.Asn1.{CHOICE, DEFAULT, EXPLICIT, Grammar, IMPLICIT, NAMED, OPTIONAL, SEQUENCE, context, end, field, one}
use Rattle.der_numbers.specs.AnyLength.{parse_integer}
use Rattle.der_ocsp.specs.Ocsp.OcspResponseStatus.{all_of_ocsp_response_status, number_of_ocsp_response_status}
use Rattle.der_opaque.specs.ObjectIdentifierOctets.{parse_identifier}
use Rattle.der_opaque.specs.Opaque.{parse_octets}
use Rattle.der_pkix.specs.Certificate.Grammar.{algorithm_identifier, certificate, certificate_serial_number, extensions}
use Rattle.der_pkix.specs.Name.Grammar.{name}
use Rattle.der_time.specs.TimeReading.{parse_generalized}
use Rattle.der_tlv.specs.HeaderOctets.{tlv}
use Rattle.der_tlv.specs.declared.tag.Tag.TheVariants as tags

abbrev pub BIT_STRING : Grammar
BIT_STRING = one tags.BitString parse_bit_string

abbrev pub GENERALIZED_TIME : Grammar
GENERALIZED_TIME = one tags.GeneralizedTime parse_generalized

abbrev pub IA5_STRING : Grammar
IA5_STRING = one tags.Ia5String (parse_string 22)

abbrev pub INTEGER : Grammar
INTEGER = one tags.Integer parse_integer

abbrev pub INTEGER_u8 : Grammar
INTEGER_u8 = one tags.Integer (parse_unsigned 1)

abbrev pub NULL : Grammar
NULL = one tags.Null parse_null

abbrev pub OBJECT_IDENTIFIER_39 : Grammar
OBJECT_IDENTIFIER_39 = one tags.ObjectIdentifier (parse_identifier 39)

abbrev pub OCTET_STRING : Grammar
OCTET_STRING = one tags.OctetString parse_octets

-- Version ::= INTEGER { v1(0) }
abbrev pub version : Grammar
version =
    INTEGER_u8

-- CertID ::= SEQUENCE {
--      hashAlgorithm   AlgorithmIdentifier,
--      issuerNameHash  OCTET STRING, -- hash of the issuer's name
--      issuerKeyHash   OCTET STRING, -- hash of the issuer's public key
--      serialNumber    CertificateSerialNumber }
abbrev pub cert_id : Grammar
cert_id =
    SEQUENCE
    (field algorithm_identifier
    (field OCTET_STRING
    (field OCTET_STRING
    (field certificate_serial_number
    end))))

-- Request ::= SEQUENCE {
--      reqCert                      CertID,
--      singleRequestExtensions  [0] EXPLICIT Extensions OPTIONAL }
abbrev pub request : Grammar
request =
    SEQUENCE
    (field cert_id
    (OPTIONAL (EXPLICIT context 0 extensions)
    end))

-- Requests ::= SEQUENCE OF Request
abbrev pub requests : Grammar
requests =
    SEQUENCE_OF request

-- TBSRequest ::= SEQUENCE {
--      version            [0] EXPLICIT Version DEFAULT v1,
--      requestorName      [1] EXPLICIT GeneralName OPTIONAL,
--      requestList            Requests,
--      requestExtensions  [2] EXPLICIT Extensions OPTIONAL }
abbrev pub tbs_request : Grammar
tbs_request =
    SEQUENCE
    (DEFAULT (tlv (marker_tag context true 0) (tlv tags.Integer (natural_contents 0))) (EXPLICIT context 0 version)
    (OPTIONAL (EXPLICIT context 1 general_name)
    (field requests
    (OPTIONAL (EXPLICIT context 2 extensions)
    end))))

-- Certificates ::= SEQUENCE OF Certificate
abbrev pub certificates : Grammar
certificates =
    SEQUENCE_OF certificate

-- Signature ::= SEQUENCE {
--      signatureAlgorithm  AlgorithmIdentifier,
--      signature           BIT STRING,
--      certs           [0] EXPLICIT Certificates OPTIONAL }
abbrev pub signature : Grammar
signature =
    SEQUENCE
    (field algorithm_identifier
    (field BIT_STRING
    (OPTIONAL (EXPLICIT context 0 certificates)
    end)))

-- OCSPRequest ::= SEQUENCE {
--      tbsRequest             TBSRequest,
--      optionalSignature  [0] EXPLICIT Signature OPTIONAL }
abbrev pub ocsp_request : Grammar
ocsp_request =
    SEQUENCE
    (field tbs_request
    (OPTIONAL (EXPLICIT context 0 signature)
    end))

-- OCSPResponseStatus ::= ENUMERATED {
--      successful        (0), -- response has valid confirmations
--      malformedRequest  (1), -- illegal confirmation request
--      internalError     (2), -- internal error in issuer
--      tryLater          (3), -- try again later
--                             -- (4) is not used
--      sigRequired       (5), -- must sign the request
--      unauthorized      (6) }
abbrev pub ocsp_response_status : Grammar
ocsp_response_status =
    NAMED number_of_ocsp_response_status all_of_ocsp_response_status tags.Enumerated

-- ResponseBytes ::= SEQUENCE {
--      responseType  OBJECT IDENTIFIER,
--      response      OCTET STRING }
abbrev pub response_bytes : Grammar
response_bytes =
    SEQUENCE
    (field OBJECT_IDENTIFIER_39
    (field OCTET_STRING
    end))

-- OCSPResponse ::= SEQUENCE {
--      responseStatus     OCSPResponseStatus,
--      responseBytes  [0] EXPLICIT ResponseBytes OPTIONAL }
abbrev pub ocsp_response : Grammar
ocsp_response =
    SEQUENCE
    (field ocsp_response_status
    (OPTIONAL (EXPLICIT context 0 response_bytes)
    end))

-- KeyHash ::= OCTET STRING
abbrev pub key_hash : Grammar
key_hash =
    OCTET_STRING

-- ResponderID ::= CHOICE {
--      byName  [1] Name,
--      byKey   [2] KeyHash }
abbrev pub responder_id : Grammar
responder_id =
    CHOICE
    (EXPLICIT context 1 name)
    (EXPLICIT context 2 key_hash)

-- RevokedInfo ::= SEQUENCE {
--      revocationTime        GeneralizedTime,
--      revocationReason  [0] EXPLICIT CRLReason OPTIONAL }
abbrev pub revoked_info : Grammar
revoked_info =
    SEQUENCE
    (field GENERALIZED_TIME
    (OPTIONAL (EXPLICIT context 0 crl_reason)
    end))

-- UnknownInfo ::= NULL
abbrev pub unknown_info : Grammar
unknown_info =
    NULL

-- CertStatus ::= CHOICE {
--      good     [0] IMPLICIT NULL,
--      revoked  [1] IMPLICIT RevokedInfo,
--      unknown  [2] IMPLICIT UnknownInfo }
abbrev pub cert_status : Grammar
cert_status =
    CHOICE
    (CHOICE
    (IMPLICIT context 0 NULL)
    (IMPLICIT context 1 revoked_info))
    (IMPLICIT context 2 unknown_info)

-- SingleResponse ::= SEQUENCE {
--      certID                CertID,
--      certStatus            CertStatus,
--      thisUpdate            GeneralizedTime,
--      nextUpdate        [0] EXPLICIT GeneralizedTime OPTIONAL,
--      singleExtensions  [1] EXPLICIT Extensions OPTIONAL }
abbrev pub single_response : Grammar
single_response =
    SEQUENCE
    (field cert_id
    (field cert_status
    (field GENERALIZED_TIME
    (OPTIONAL (EXPLICIT context 0 GENERALIZED_TIME)
    (OPTIONAL (EXPLICIT context 1 extensions)
    end)))))

-- SingleResponses ::= SEQUENCE OF SingleResponse
abbrev pub single_responses : Grammar
single_responses =
    SEQUENCE_OF single_response

-- ResponseData ::= SEQUENCE {
--      version             [0] EXPLICIT Version DEFAULT v1,
--      responderID             ResponderID,
--      producedAt              GeneralizedTime,
--      responses               SingleResponses,
--      responseExtensions  [1] EXPLICIT Extensions OPTIONAL }
abbrev pub response_data : Grammar
response_data =
    SEQUENCE
    (DEFAULT (tlv (marker_tag context true 0) (tlv tags.Integer (natural_contents 0))) (EXPLICIT context 0 version)
    (field responder_id
    (field GENERALIZED_TIME
    (field single_responses
    (OPTIONAL (EXPLICIT context 1 extensions)
    end)))))

-- BasicOCSPResponse ::= SEQUENCE {
--      tbsResponseData     ResponseData,
--      signatureAlgorithm  AlgorithmIdentifier,
--      signature           BIT STRING,
--      certs           [0] EXPLICIT Certificates OPTIONAL }
abbrev pub basic_ocsp_response : Grammar
basic_ocsp_response =
    SEQUENCE
    (field response_data
    (field algorithm_identifier
    (field BIT_STRING
    (OPTIONAL (EXPLICIT context 0 certificates)
    end))))

-- Nonce ::= OCTET STRING (SIZE (1..32))
abbrev pub nonce : Grammar
nonce =
    OCTET_STRING

-- CrlID ::= SEQUENCE {
--      crlUrl   [0] EXPLICIT IA5String OPTIONAL,
--      crlNum   [1] EXPLICIT INTEGER OPTIONAL,
--      crlTime  [2] EXPLICIT GeneralizedTime OPTIONAL }
abbrev pub crl_id : Grammar
crl_id =
    SEQUENCE
    (OPTIONAL (EXPLICIT context 0 IA5_STRING)
    (OPTIONAL (EXPLICIT context 1 INTEGER)
    (OPTIONAL (EXPLICIT context 2 GENERALIZED_TIME)
    end)))

-- AcceptableResponses ::= SEQUENCE OF OBJECT IDENTIFIER
abbrev pub acceptable_responses : Grammar
acceptable_responses =
    SEQUENCE_OF OBJECT_IDENTIFIER_39

-- ArchiveCutoff ::= GeneralizedTime
abbrev pub archive_cutoff : Grammar
archive_cutoff =
    GENERALIZED_TIME

-- ServiceLocator ::= SEQUENCE {
--      issuer   Name,
--      locator  AuthorityInfoAccessSyntax }
abbrev pub service_locator : Grammar
service_locator =
    SEQUENCE
    (field name
    (field authority_info_access_syntax
    end))

-- PreferredSignatureAlgorithm ::= SEQUENCE {
--      sigIdentifier   AlgorithmIdentifier,
--      certIdentifier  AlgorithmIdentifier OPTIONAL }
abbrev pub preferred_signature_algorithm : Grammar
preferred_signature_algorithm =
    SEQUENCE
    (field algorithm_identifier
    (OPTIONAL algorithm_identifier
    end))

-- PreferredSignatureAlgorithms ::= SEQUENCE OF PreferredSignatureAlgorithm
abbrev pub preferred_signature_algorithms : Grammar
preferred_signature_algorithms =
    SEQUENCE_OF preferred_signature_algorithm

-- ExtendedRevoke ::= NULL
abbrev pub extended_revoke : Grammar
extended_revoke =
    NULL

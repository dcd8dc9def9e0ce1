-- The grammar of PkixAlgorithms, in the words of ASN.1.
-- Made by tools/asn1 from algorithm.asn1.
use Rattle.std.specs.Prelude.{true}
use Rattle.der_bits.specs.BitString.{parse_bit_string}
use Rattle.der_elem.specs.Integer.{natural_contents}
use Rattle.der_elem.specs.IntegerReading.{parse_unsigned}
use Rattle.der_fields.specs.MarkerTags.{marker_tag}
use Rattle.der_modules.specs.Asn1.{DEFAULT, EXPLICIT, Grammar, OPTIONAL, SEQUENCE, context, end, field, one}
use Rattle.der_numbers.specs.AnyLength.{parse_natural}
use Rattle.der_opaque.specs.Opaque.{parse_octets}
use Rattle.der_pkix.specs.Certificate.Grammar.{algorithm_identifier}
use Rattle.der_tlv.specs.HeaderOctets.{tlv}
use Rattle.der_tlv.specs.declared.tag.Tag.TheVariants as tags

abbrev pub BIT_STRING : Grammar
BIT_STRING = one tags.BitString parse_bit_string

abbrev pub INTEGER_u32 : Grammar
INTEGER_u32 = one tags.Integer (parse_unsigned 4)

abbrev pub INTEGER_u8 : Grammar
INTEGER_u8 = one tags.Integer (parse_unsigned 1)

abbrev pub NATURAL : Grammar
NATURAL = one tags.Integer parse_natural

abbrev pub OCTET_STRING : Grammar
OCTET_STRING = one tags.OctetString parse_octets

-- RSASSA-PSS-params ::= SEQUENCE {
--      hashAlgorithm     [0] AlgorithmIdentifier OPTIONAL,
--                            -- RFC 4055 has DEFAULT sha1Identifier
--      maskGenAlgorithm  [1] AlgorithmIdentifier OPTIONAL,
--                            -- RFC 4055 has DEFAULT mgf1SHA1Identifier
--      saltLength        [2] INTEGER OPTIONAL,
--                            -- RFC 4055 has DEFAULT 20
--      trailerField      [3] INTEGER DEFAULT 1
--      }
abbrev pub rsassa_pss_params : Grammar
rsassa_pss_params =
    SEQUENCE
    (OPTIONAL (EXPLICIT context 0 algorithm_identifier)
    (OPTIONAL (EXPLICIT context 1 algorithm_identifier)
    (OPTIONAL (EXPLICIT context 2 INTEGER_u32)
    (DEFAULT (tlv (marker_tag context true 3) (tlv tags.Integer (natural_contents 1))) (EXPLICIT context 3 INTEGER_u8)
    end))))

-- RSAES-OAEP-params ::= SEQUENCE {
--      hashFunc     [0] AlgorithmIdentifier OPTIONAL,
--                       -- RFC 4055 has DEFAULT sha1Identifier
--      maskGenFunc  [1] AlgorithmIdentifier OPTIONAL,
--                       -- RFC 4055 has DEFAULT mgf1SHA1Identifier
--      pSourceFunc  [2] AlgorithmIdentifier OPTIONAL }
abbrev pub rsaes_oaep_params : Grammar
rsaes_oaep_params =
    SEQUENCE
    (OPTIONAL (EXPLICIT context 0 algorithm_identifier)
    (OPTIONAL (EXPLICIT context 1 algorithm_identifier)
    (OPTIONAL (EXPLICIT context 2 algorithm_identifier)
    end)))

-- ECDSA-Sig-Value ::= SEQUENCE {
--      r  INTEGER (0..MAX),
--      s  INTEGER (0..MAX) }
abbrev pub ecdsa_sig_value : Grammar
ecdsa_sig_value =
    SEQUENCE
    (field NATURAL
    (field NATURAL
    end))

-- Dss-Sig-Value ::= ECDSA-Sig-Value
abbrev pub dss_sig_value : Grammar
dss_sig_value =
    ecdsa_sig_value

-- DSAPublicKey ::= INTEGER (0..MAX)
abbrev pub dsa_public_key : Grammar
dsa_public_key =
    NATURAL

-- Dss-Parms ::= SEQUENCE {
--      p  INTEGER (0..MAX),
--      q  INTEGER (0..MAX),
--      g  INTEGER (0..MAX) }
abbrev pub dss_parms : Grammar
dss_parms =
    SEQUENCE
    (field NATURAL
    (field NATURAL
    (field NATURAL
    end)))

-- DHPublicKey ::= INTEGER (0..MAX)
abbrev pub dh_public_key : Grammar
dh_public_key =
    NATURAL

-- ValidationParms ::= SEQUENCE {
--      seed         BIT STRING,
--      pgenCounter  INTEGER (0..MAX) }
abbrev pub validation_parms : Grammar
validation_parms =
    SEQUENCE
    (field BIT_STRING
    (field NATURAL
    end))

-- DomainParameters ::= SEQUENCE {
--      p                INTEGER (0..MAX),          -- odd prime, p=jq +1
--      g                INTEGER (0..MAX),          -- generator, g
--      q                INTEGER (0..MAX),          -- factor of p-1
--      j                INTEGER (0..MAX) OPTIONAL, -- subgroup factor
--      validationParms  ValidationParms OPTIONAL }
abbrev pub domain_parameters : Grammar
domain_parameters =
    SEQUENCE
    (field NATURAL
    (field NATURAL
    (field NATURAL
    (OPTIONAL NATURAL
    (OPTIONAL validation_parms
    end)))))

-- DHParameter ::= SEQUENCE {
--      prime               INTEGER (0..MAX), -- p
--      base                INTEGER (0..MAX), -- g
--      privateValueLength  INTEGER (0..MAX) OPTIONAL
--      }
abbrev pub dh_parameter : Grammar
dh_parameter =
    SEQUENCE
    (field NATURAL
    (field NATURAL
    (OPTIONAL INTEGER_u32
    end)))

-- SignedCertificateTimestampList ::= OCTET STRING
abbrev pub signed_certificate_timestamp_list : Grammar
signed_certificate_timestamp_list =
    OCTET_STRING

-- The grammar of PkixKeys, in the words of ASN.1.
-- Made by tools/asn1 from key.asn1.
use Rattle.std.specs.Prelude.{true}
use Rattle.der_bits.specs.BitString.{parse_bit_string}
use Rattle.der_elem.specs.IntegerReading.{parse_unsigned}
use Rattle.der_elem.specs.Null.{parse_null}
use Rattle.der_lists.specs.Asn1.{SEQUENCE_OF, SET_OF_ANY_ORDER}
use Rattle.der_modules.specs.Asn1.{CHOICE, EXPLICIT, Grammar, IMPLICIT, NOT_EMPTY, OPTIONAL, SEQUENCE, any_of, context, end, field, one}
use Rattle.der_numbers.specs.AnyLength.{parse_integer, parse_natural}
use Rattle.der_opaque.specs.AnyForm.{parse_any}
use Rattle.der_opaque.specs.ObjectIdentifierOctets.{parse_identifier}
use Rattle.der_opaque.specs.Opaque.{parse_octets}
use Rattle.der_pkix.specs.Certificate.Grammar.{algorithm_identifier}
use Rattle.der_pkix.specs.Name.Grammar.{attribute}
use Rattle.der_tlv.specs.declared.tag.Tag.TheVariants as tags

abbrev pub ANY : Grammar
ANY = any_of (λ t. true) parse_any

abbrev pub BIT_STRING : Grammar
BIT_STRING = one tags.BitString parse_bit_string

abbrev pub INTEGER : Grammar
INTEGER = one tags.Integer parse_integer

abbrev pub INTEGER_u8 : Grammar
INTEGER_u8 = one tags.Integer (parse_unsigned 1)

abbrev pub NATURAL : Grammar
NATURAL = one tags.Integer parse_natural

abbrev pub NULL : Grammar
NULL = one tags.Null parse_null

abbrev pub OBJECT_IDENTIFIER_39 : Grammar
OBJECT_IDENTIFIER_39 = one tags.ObjectIdentifier (parse_identifier 39)

abbrev pub OCTET_STRING : Grammar
OCTET_STRING = one tags.OctetString parse_octets

-- a type within another: OneAsymmetricKeyVersion
abbrev pub one_asymmetric_key_version : Grammar
one_asymmetric_key_version =
    INTEGER_u8

-- Attributes ::= SET OF Attribute
abbrev pub attributes : Grammar
attributes =
    SET_OF_ANY_ORDER attribute

-- OneAsymmetricKey ::= SEQUENCE {
--      version              INTEGER { v1(0), v2(1) },
--      privateKeyAlgorithm  AlgorithmIdentifier,
--      privateKey           OCTET STRING,
--      attributes       [0] IMPLICIT Attributes OPTIONAL,
--      ...,
--      publicKey        [1] IMPLICIT BIT STRING OPTIONAL,
--                           -- if present, version MUST be v2
--      ... }
abbrev pub one_asymmetric_key : Grammar
one_asymmetric_key =
    SEQUENCE
    (field one_asymmetric_key_version
    (field algorithm_identifier
    (field OCTET_STRING
    (OPTIONAL (IMPLICIT context 0 attributes)
    (OPTIONAL (IMPLICIT context 1 BIT_STRING)
    end)))))

-- PrivateKeyInfo ::= OneAsymmetricKey
abbrev pub private_key_info : Grammar
private_key_info =
    one_asymmetric_key

-- RSAPublicKey ::= SEQUENCE {
--      modulus         INTEGER (0..MAX),  -- n
--      publicExponent  INTEGER (0..MAX) }
abbrev pub rsa_public_key : Grammar
rsa_public_key =
    SEQUENCE
    (field NATURAL
    (field NATURAL
    end))

-- a type within another: RsaPrivateKeyVersion
abbrev pub rsa_private_key_version : Grammar
rsa_private_key_version =
    INTEGER_u8

-- OtherPrimeInfo ::= SEQUENCE {
--      prime        INTEGER (0..MAX),  -- ri
--      exponent     INTEGER (0..MAX),  -- di
--      coefficient  INTEGER (0..MAX) }
abbrev pub other_prime_info : Grammar
other_prime_info =
    SEQUENCE
    (field NATURAL
    (field NATURAL
    (field NATURAL
    end)))

-- OtherPrimeInfos ::= SEQUENCE SIZE (1..MAX) OF OtherPrimeInfo
abbrev pub other_prime_infos : Grammar
other_prime_infos =
    NOT_EMPTY (SEQUENCE_OF other_prime_info)

-- RSAPrivateKey ::= SEQUENCE {
--      version          INTEGER { two-prime(0), multi(1) },
--      modulus          INTEGER (0..MAX),  -- n
--      publicExponent   INTEGER (0..MAX),  -- e
--      privateExponent  INTEGER (0..MAX),  -- d
--      prime1           INTEGER (0..MAX),  -- p
--      prime2           INTEGER (0..MAX),  -- q
--      exponent1        INTEGER (0..MAX),  -- d mod (p-1)
--      exponent2        INTEGER (0..MAX),  -- d mod (q-1)
--      coefficient      INTEGER (0..MAX),  -- (inverse of q) mod p
--      otherPrimeInfos  OtherPrimeInfos OPTIONAL }
abbrev pub rsa_private_key : Grammar
rsa_private_key =
    SEQUENCE
    (field rsa_private_key_version
    (field NATURAL
    (field NATURAL
    (field NATURAL
    (field NATURAL
    (field NATURAL
    (field NATURAL
    (field NATURAL
    (field NATURAL
    (OPTIONAL other_prime_infos
    end))))))))))

-- a type within another: EcPrivateKeyVersion
abbrev pub ec_private_key_version : Grammar
ec_private_key_version =
    INTEGER_u8

-- a type within another: SpecifiedEcDomainVersion
abbrev pub specified_ec_domain_version : Grammar
specified_ec_domain_version =
    INTEGER_u8

-- FieldID ::= SEQUENCE {
--      fieldType   OBJECT IDENTIFIER,
--      parameters  ANY DEFINED BY fieldType }
abbrev pub field_id : Grammar
field_id =
    SEQUENCE
    (field OBJECT_IDENTIFIER_39
    (field ANY
    end))

-- Curve ::= SEQUENCE {
--      a     OCTET STRING, -- an element of the field
--      b     OCTET STRING,
--      seed  BIT STRING OPTIONAL }
abbrev pub curve : Grammar
curve =
    SEQUENCE
    (field OCTET_STRING
    (field OCTET_STRING
    (OPTIONAL BIT_STRING
    end)))

-- SpecifiedECDomain ::= SEQUENCE {
--      version   INTEGER { ecdpVer1(1), ecdpVer2(2), ecdpVer3(3) },
--      fieldID   FieldID,
--      curve     Curve,
--      base      OCTET STRING, -- a point of the curve
--      order     INTEGER,
--      cofactor  INTEGER OPTIONAL,
--      hash      AlgorithmIdentifier OPTIONAL }
abbrev pub specified_ec_domain : Grammar
specified_ec_domain =
    SEQUENCE
    (field specified_ec_domain_version
    (field field_id
    (field curve
    (field OCTET_STRING
    (field INTEGER
    (OPTIONAL INTEGER
    (OPTIONAL algorithm_identifier
    end)))))))

-- ECParameters ::= CHOICE {
--      namedCurve      OBJECT IDENTIFIER,
--      implicitCurve   NULL,
--      specifiedCurve  SpecifiedECDomain }
abbrev pub ec_parameters : Grammar
ec_parameters =
    CHOICE
    (CHOICE
    OBJECT_IDENTIFIER_39
    NULL)
    specified_ec_domain

-- ECPrivateKey ::= SEQUENCE {
--      version        INTEGER { ecPrivkeyVer1(1) },
--      privateKey     OCTET STRING,
--      parameters [0] ECParameters OPTIONAL,
--      publicKey  [1] BIT STRING OPTIONAL }
abbrev pub ec_private_key : Grammar
ec_private_key =
    SEQUENCE
    (field ec_private_key_version
    (field OCTET_STRING
    (OPTIONAL (EXPLICIT context 0 ec_parameters)
    (OPTIONAL (EXPLICIT context 1 BIT_STRING)
    end))))

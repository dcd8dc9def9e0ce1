-- The grammar of PkcsEncryption, in the words of ASN.1.
-- Made by tools/asn1 from encryption.asn1.
use Rattle.der_elem.specs.IntegerReading.{parse_unsigned}
use Rattle.der_modules.specs.Asn1.{CHOICE, Grammar, OPTIONAL, SEQUENCE, end, field, one}
use Rattle.der_opaque.specs.Opaque.{parse_octets}
use Rattle.der_pkix.specs.Certificate.Grammar.{algorithm_identifier}
use Rattle.der_tlv.specs.declared.tag.Tag.TheVariants as tags

abbrev pub INTEGER_u32 : Grammar
INTEGER_u32 = one tags.Integer (parse_unsigned 4)

abbrev pub OCTET_STRING : Grammar
OCTET_STRING = one tags.OctetString parse_octets

-- EncryptedPrivateKeyInfo ::= SEQUENCE {
--      encryptionAlgorithm  AlgorithmIdentifier,
--      encryptedData        OCTET STRING }
abbrev pub encrypted_private_key_info : Grammar
encrypted_private_key_info =
    SEQUENCE
    (field algorithm_identifier
    (field OCTET_STRING
    end))

-- a type within another: Pbkdf2Salt
abbrev pub pbkdf2_salt : Grammar
pbkdf2_salt =
    CHOICE
    OCTET_STRING
    algorithm_identifier

-- PBKDF2-params ::= SEQUENCE {
--      salt            CHOICE {
--           specified    OCTET STRING,
--           otherSource  AlgorithmIdentifier },
--      iterationCount  INTEGER (1..MAX),
--      keyLength       INTEGER (1..MAX) OPTIONAL,
--      prf             AlgorithmIdentifier OPTIONAL }
abbrev pub pbkdf2_params : Grammar
pbkdf2_params =
    SEQUENCE
    (field pbkdf2_salt
    (field INTEGER_u32
    (OPTIONAL INTEGER_u32
    (OPTIONAL algorithm_identifier
    end))))

-- PBEParameter ::= SEQUENCE {
--      salt            OCTET STRING (SIZE (8)),
--      iterationCount  INTEGER
--      }
abbrev pub pbe_parameter : Grammar
pbe_parameter =
    SEQUENCE
    (field OCTET_STRING
    (field INTEGER_u32
    end))

-- PBES2-params ::= SEQUENCE {
--      keyDerivationFunc  AlgorithmIdentifier,
--      encryptionScheme   AlgorithmIdentifier }
abbrev pub pbes2_params : Grammar
pbes2_params =
    SEQUENCE
    (field algorithm_identifier
    (field algorithm_identifier
    end))

-- PBMAC1-params ::= PBES2-params
abbrev pub pbmac1_params : Grammar
pbmac1_params =
    pbes2_params

-- IV ::= OCTET STRING
abbrev pub iv : Grammar
iv =
    OCTET_STRING

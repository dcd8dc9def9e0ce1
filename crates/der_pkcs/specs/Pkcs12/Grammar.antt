-- The grammar of PKCS-12, in the words of ASN.1.
-- Made by tools/asn1 from pkcs12.asn1.
use Rattle.std.specs.Prelude.{true}
use Rattle.der_elem.specs.IntegerReading.{parse_unsigned}
use Rattle.der_lists.specs.Asn1.{SEQUENCE_OF}
use Rattle.der_modules.specs.Asn1.{EXPLICIT, Grammar, OPTIONAL, SEQUENCE, any_of, context, end, field, one}
use Rattle.der_opaque.specs.AnyForm.{parse_any}
use Rattle.der_opaque.specs.ObjectIdentifierOctets.{parse_identifier}
use Rattle.der_opaque.specs.Opaque.{parse_octets}
use Rattle.der_pkcs.specs.Encryption.Grammar.{encrypted_private_key_info, pbe_parameter}
use Rattle.der_pkix.specs.Certificate.Grammar.{algorithm_identifier}
use Rattle.der_pkix.specs.Key.Grammar.{attributes, private_key_info}
use Rattle.der_tlv.specs.declared.tag.Tag.TheVariants as tags

abbrev pub ANY : Grammar
ANY = any_of (λ t. true) parse_any

abbrev pub INTEGER_u32 : Grammar
INTEGER_u32 = one tags.Integer (parse_unsigned 4)

abbrev pub INTEGER_u8 : Grammar
INTEGER_u8 = one tags.Integer (parse_unsigned 1)

abbrev pub OBJECT_IDENTIFIER_39 : Grammar
OBJECT_IDENTIFIER_39 = one tags.ObjectIdentifier (parse_identifier 39)

abbrev pub OCTET_STRING : Grammar
OCTET_STRING = one tags.OctetString parse_octets

-- a type within another: PfxVersion
abbrev pub pfx_version : Grammar
pfx_version =
    INTEGER_u8

-- ContentInfo ::= SEQUENCE {
--      contentType  OBJECT IDENTIFIER,
--      content      [0] EXPLICIT ANY DEFINED BY contentType OPTIONAL }
abbrev pub content_info : Grammar
content_info =
    SEQUENCE
    (field OBJECT_IDENTIFIER_39
    (OPTIONAL (EXPLICIT context 0 ANY)
    end))

-- DigestInfo ::= SEQUENCE {
--      digestAlgorithm  AlgorithmIdentifier,
--      digest           OCTET STRING }
abbrev pub digest_info : Grammar
digest_info =
    SEQUENCE
    (field algorithm_identifier
    (field OCTET_STRING
    end))

-- MacData ::= SEQUENCE {
--      mac         DigestInfo,
--      macSalt     OCTET STRING,
--      iterations  INTEGER OPTIONAL
--                  -- RFC 7292 has DEFAULT 1: absent it says 1, and the default is taken where it is
--                  -- encoded
--      }
abbrev pub mac_data : Grammar
mac_data =
    SEQUENCE
    (field digest_info
    (field OCTET_STRING
    (OPTIONAL INTEGER_u32
    end)))

-- PFX ::= SEQUENCE {
--      version   INTEGER { v3(3) },
--      authSafe  ContentInfo,
--      macData   MacData OPTIONAL }
abbrev pub pfx : Grammar
pfx =
    SEQUENCE
    (field pfx_version
    (field content_info
    (OPTIONAL mac_data
    end)))

-- AuthenticatedSafe ::= SEQUENCE OF ContentInfo
abbrev pub authenticated_safe : Grammar
authenticated_safe =
    SEQUENCE_OF content_info

-- SafeBag ::= SEQUENCE {
--      bagId          OBJECT IDENTIFIER,
--      bagValue       [0] EXPLICIT ANY DEFINED BY bagId,
--      bagAttributes  Attributes OPTIONAL }
abbrev pub safe_bag : Grammar
safe_bag =
    SEQUENCE
    (field OBJECT_IDENTIFIER_39
    (field (EXPLICIT context 0 ANY)
    (OPTIONAL attributes
    end)))

-- SafeContents ::= SEQUENCE OF SafeBag
abbrev pub safe_contents : Grammar
safe_contents =
    SEQUENCE_OF safe_bag

-- KeyBag ::= PrivateKeyInfo
abbrev pub key_bag : Grammar
key_bag =
    private_key_info

-- PKCS8ShroudedKeyBag ::= EncryptedPrivateKeyInfo
abbrev pub pkcs8_shrouded_key_bag : Grammar
pkcs8_shrouded_key_bag =
    encrypted_private_key_info

-- CertBag ::= SEQUENCE {
--      certId     OBJECT IDENTIFIER,
--      certValue  [0] EXPLICIT ANY DEFINED BY certId }
abbrev pub cert_bag : Grammar
cert_bag =
    SEQUENCE
    (field OBJECT_IDENTIFIER_39
    (field (EXPLICIT context 0 ANY)
    end))

-- CRLBag ::= SEQUENCE {
--      crlId     OBJECT IDENTIFIER,
--      crlValue  [0] EXPLICIT ANY DEFINED BY crlId }
abbrev pub crl_bag : Grammar
crl_bag =
    SEQUENCE
    (field OBJECT_IDENTIFIER_39
    (field (EXPLICIT context 0 ANY)
    end))

-- SecretBag ::= SEQUENCE {
--      secretTypeId  OBJECT IDENTIFIER,
--      secretValue   [0] EXPLICIT ANY DEFINED BY secretTypeId }
abbrev pub secret_bag : Grammar
secret_bag =
    SEQUENCE
    (field OBJECT_IDENTIFIER_39
    (field (EXPLICIT context 0 ANY)
    end))

-- Pkcs-12PbeParams ::= PBEParameter
abbrev pub pkcs12_pbe_params : Grammar
pkcs12_pbe_params =
    pbe_parameter

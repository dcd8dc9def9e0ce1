-- The grammar of PKCS-10, in the words of ASN.1.
-- Made by tools/asn1 from request.asn1.
use Rattle.std.specs.Prelude.{true}
use Rattle.der_bits.specs.BitString.{parse_bit_string}
use Rattle.der_elem.specs.IntegerReading.{parse_unsigned}
use Rattle.der_modules.specs.Asn1.{Grammar, IMPLICIT, SEQUENCE, any_of, context, end, field, one}
use Rattle.der_opaque.specs.AnyForm.{parse_any}
use Rattle.der_pkix.specs.Certificate.Grammar.{algorithm_identifier, extensions, subject_public_key_info}
use Rattle.der_pkix.specs.Key.Grammar.{attributes}
use Rattle.der_pkix.specs.Name.Grammar.{name}
use Rattle.der_tlv.specs.declared.tag.Tag.TheVariants as tags

abbrev pub ANY : Grammar
ANY = any_of (λ t. true) parse_any

abbrev pub BIT_STRING : Grammar
BIT_STRING = one tags.BitString parse_bit_string

abbrev pub INTEGER_u8 : Grammar
INTEGER_u8 = one tags.Integer (parse_unsigned 1)

-- a type within another: CertificationRequestInfoVersion
abbrev pub certification_request_info_version : Grammar
certification_request_info_version =
    INTEGER_u8

-- CertificationRequestInfo ::= SEQUENCE {
--      version        INTEGER { v1(0) },
--      subject        Name,
--      subjectPKInfo  SubjectPublicKeyInfo,
--      attributes     [0] Attributes }
abbrev pub certification_request_info : Grammar
certification_request_info =
    SEQUENCE
    (field certification_request_info_version
    (field name
    (field subject_public_key_info
    (field (IMPLICIT context 0 attributes)
    end))))

-- CertificationRequest ::= SEQUENCE {
--      certificationRequestInfo  CertificationRequestInfo,
--      signatureAlgorithm        AlgorithmIdentifier,
--      signature                 BIT STRING }
abbrev pub certification_request : Grammar
certification_request =
    SEQUENCE
    (field certification_request_info
    (field algorithm_identifier
    (field BIT_STRING
    end)))

-- ExtensionRequest ::= Extensions
abbrev pub extension_request : Grammar
extension_request =
    extensions

-- ChallengePassword ::= ANY
abbrev pub challenge_password : Grammar
challenge_password =
    ANY

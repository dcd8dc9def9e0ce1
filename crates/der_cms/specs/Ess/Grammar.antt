-- The grammar of ExtendedSecurityServices-2006, in the words of ASN.1.
-- Made by tools/asn1 from ess.asn1.
use Rattle.der_extensions.specs.Extension.Grammar.{general_names, policy_information}
use Rattle.der_lists.specs.Asn1.{SEQUENCE_OF}
use Rattle.der_modules.specs.Asn1.{Grammar, OPTIONAL, SEQUENCE, end, field, one}
use Rattle.der_opaque.specs.Opaque.{parse_octets}
use Rattle.der_pkix.specs.Certificate.Grammar.{algorithm_identifier, certificate_serial_number}
use Rattle.der_tlv.specs.declared.tag.Tag.TheVariants as tags

abbrev pub OCTET_STRING : Grammar
OCTET_STRING = one tags.OctetString parse_octets

-- Hash ::= OCTET STRING
abbrev pub hash : Grammar
hash =
    OCTET_STRING

-- IssuerSerial ::= SEQUENCE {
--      issuer        GeneralNames,
--      serialNumber  CertificateSerialNumber }
abbrev pub issuer_serial : Grammar
issuer_serial =
    SEQUENCE
    (field general_names
    (field certificate_serial_number
    end))

-- ESSCertID ::= SEQUENCE {
--      certHash      Hash,
--      issuerSerial  IssuerSerial OPTIONAL }
abbrev pub ess_cert_id : Grammar
ess_cert_id =
    SEQUENCE
    (field hash
    (OPTIONAL issuer_serial
    end))

-- SigningCertificate ::= SEQUENCE {
--      certs     SEQUENCE OF ESSCertID,
--      policies  SEQUENCE OF PolicyInformation OPTIONAL }
abbrev pub signing_certificate : Grammar
signing_certificate =
    SEQUENCE
    (field (SEQUENCE_OF ess_cert_id)
    (OPTIONAL (SEQUENCE_OF policy_information)
    end))

-- ESSCertIDv2 ::= SEQUENCE {
--      hashAlgorithm  AlgorithmIdentifier OPTIONAL,
--                     -- RFC 5035 has DEFAULT { algorithm id-sha256 }: absent it says SHA-256, and
--                     -- the default is taken where it is encoded
--      certHash       Hash,
--      issuerSerial   IssuerSerial OPTIONAL }
abbrev pub ess_cert_idv2 : Grammar
ess_cert_idv2 =
    SEQUENCE
    (OPTIONAL algorithm_identifier
    (field hash
    (OPTIONAL issuer_serial
    end)))

-- SigningCertificateV2 ::= SEQUENCE {
--      certs     SEQUENCE OF ESSCertIDv2,
--      policies  SEQUENCE OF PolicyInformation OPTIONAL }
abbrev pub signing_certificate_v2 : Grammar
signing_certificate_v2 =
    SEQUENCE
    (field (SEQUENCE_OF ess_cert_idv2)
    (OPTIONAL (SEQUENCE_OF policy_information)
    end))

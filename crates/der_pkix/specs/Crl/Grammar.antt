-- The grammar of PkixRevocation, in the words of ASN.1.
-- Made by tools/asn1 from crl.asn1.
use Rattle.der_bits.specs.BitString.{parse_bit_string}
use Rattle.der_lists.specs.Asn1.{SEQUENCE_OF}
use Rattle.der_modules.specs.Asn1.{EXPLICIT, Grammar, OPTIONAL, SEQUENCE, context, end, field, one}
use Rattle.der_pkix.specs.Certificate.Grammar.{algorithm_identifier, certificate_serial_number, extensions, time, version}
use Rattle.der_pkix.specs.Name.Grammar.{name}
use Rattle.der_tlv.specs.declared.tag.Tag.TheVariants as tags

abbrev pub BIT_STRING : Grammar
BIT_STRING = one tags.BitString parse_bit_string

-- a type within another: RevokedCertificate
abbrev pub revoked_certificate : Grammar
revoked_certificate =
    SEQUENCE
    (field certificate_serial_number
    (field time
    (OPTIONAL extensions
    end)))

-- TBSCertList ::= SEQUENCE {
--      version              Version OPTIONAL,
--                           -- if present, MUST be v2
--      signature            AlgorithmIdentifier,
--      issuer               Name,
--      thisUpdate           Time,
--      nextUpdate           Time OPTIONAL,
--      revokedCertificates  SEQUENCE OF SEQUENCE {
--           userCertificate     CertificateSerialNumber,
--           revocationDate      Time,
--           crlEntryExtensions  Extensions OPTIONAL
--                               -- if present, version MUST be v2
--                           } OPTIONAL,
--      crlExtensions        [0] Extensions OPTIONAL }
abbrev pub tbs_cert_list : Grammar
tbs_cert_list =
    SEQUENCE
    (OPTIONAL version
    (field algorithm_identifier
    (field name
    (field time
    (OPTIONAL time
    (OPTIONAL (SEQUENCE_OF revoked_certificate)
    (OPTIONAL (EXPLICIT context 0 extensions)
    end)))))))

-- CertificateList ::= SEQUENCE {
--      tbsCertList         TBSCertList,
--      signatureAlgorithm  AlgorithmIdentifier,
--      signatureValue      BIT STRING }
abbrev pub certificate_list : Grammar
certificate_list =
    SEQUENCE
    (field tbs_cert_list
    (field algorithm_identifier
    (field BIT_STRING
    end)))

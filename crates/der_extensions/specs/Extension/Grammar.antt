-- The grammar of PkixExtensions, in the words of ASN.1.
-- Made by tools/asn1 from extension.asn1.
use Rattle.std.specs.Prelude.{false, true}
use Rattle.der_ascii.specs.Characters.{parse_string}
use Rattle.der_bits.specs.NamedBits.{parse_named_bits}
use Rattle.der_elem.specs.Boolean.{boolean_contents, parse_boolean}
use Rattle.der_elem.specs.Integer.{natural_contents}
use Rattle.der_elem.specs.IntegerReading.{parse_unsigned}
use Rattle.der_extensions.specs.Extension.CrlReason.{all_of_crl_reason, number_of_crl_reason}
use Rattle.der_fields.specs.MarkerTags.{marker_tag}
use Rattle.der_lists.specs.Asn1.{SEQUENCE_OF}
use Rattle.der_modules.specs.Asn1.{CHOICE, DEFAULT, EXPLICIT, Grammar, IMPLICIT, NAMED, NOT_EMPTY, OPTIONAL, SEQUENCE, any_of, context, end, field, one}
use Rattle.der_numbers.specs.AnyLength.{parse_natural}
use Rattle.der_opaque.specs.AnyForm.{parse_any}
use Rattle.der_opaque.specs.ObjectIdentifierOctets.{parse_identifier}
use Rattle.der_opaque.specs.Opaque.{parse_octets}
use Rattle.der_pkix.specs.Certificate.Grammar.{certificate_serial_number}
use Rattle.der_pkix.specs.Name.Grammar.{attribute, name, relative_distinguished_name}
use Rattle.der_time.specs.TimeReading.{parse_generalized}
use Rattle.der_tlv.specs.HeaderOctets.{tlv}
use Rattle.der_tlv.specs.TagParts.{is_constructed}
use Rattle.der_tlv.specs.declared.tag.Tag.TheVariants as tags

abbrev pub ANY : Grammar
ANY = any_of (λ t. true) parse_any

abbrev pub BOOLEAN : Grammar
BOOLEAN = one tags.Boolean parse_boolean

abbrev pub GENERALIZED_TIME : Grammar
GENERALIZED_TIME = one tags.GeneralizedTime parse_generalized

abbrev pub IA5_STRING : Grammar
IA5_STRING = one tags.Ia5String (parse_string 22)

abbrev pub INTEGER_u8 : Grammar
INTEGER_u8 = one tags.Integer (parse_unsigned 1)

abbrev pub NAMED_BITS : Grammar
NAMED_BITS = one tags.BitString parse_named_bits

abbrev pub NATURAL : Grammar
NATURAL = one tags.Integer parse_natural

abbrev pub OBJECT_IDENTIFIER_39 : Grammar
OBJECT_IDENTIFIER_39 = one tags.ObjectIdentifier (parse_identifier 39)

abbrev pub OCTET_STRING : Grammar
OCTET_STRING = one tags.OctetString parse_octets

abbrev pub UNREAD_SEQUENCE : Grammar
UNREAD_SEQUENCE = one tags.Sequence parse_octets

-- KeyIdentifier ::= OCTET STRING
abbrev pub key_identifier : Grammar
key_identifier =
    OCTET_STRING

-- AnotherName ::= SEQUENCE {
--      type-id    OBJECT IDENTIFIER,
--      value      [0] EXPLICIT ANY DEFINED BY type-id }
abbrev pub another_name : Grammar
another_name =
    SEQUENCE
    (field OBJECT_IDENTIFIER_39
    (field (EXPLICIT context 0 ANY)
    end))

-- GeneralName ::= CHOICE {
--      otherName                 [0]  AnotherName,
--      rfc822Name                [1]  IA5String,
--      dNSName                   [2]  IA5String,
--      x400Address               [3]  ORAddress,
--      directoryName             [4]  Name,
--      ediPartyName              [5]  EDIPartyName,
--      uniformResourceIdentifier [6]  IA5String,
--      iPAddress                 [7]  OCTET STRING,
--      registeredID              [8]  OBJECT IDENTIFIER }
abbrev pub general_name : Grammar
general_name =
    CHOICE
    (CHOICE
    (CHOICE
    (CHOICE
    (IMPLICIT context 0 another_name)
    (IMPLICIT context 1 IA5_STRING))
    (IMPLICIT context 2 IA5_STRING))
    (CHOICE
    (IMPLICIT context 3 UNREAD_SEQUENCE)
    (IMPLICIT context 4 name)))
    (CHOICE
    (CHOICE
    (IMPLICIT context 5 UNREAD_SEQUENCE)
    (IMPLICIT context 6 IA5_STRING))
    (CHOICE
    (IMPLICIT context 7 OCTET_STRING)
    (IMPLICIT context 8 OBJECT_IDENTIFIER_39)))

-- GeneralNames ::= SEQUENCE SIZE (1..MAX) OF GeneralName
abbrev pub general_names : Grammar
general_names =
    NOT_EMPTY (SEQUENCE_OF general_name)

-- AuthorityKeyIdentifier ::= SEQUENCE {
--     keyIdentifier             [0] KeyIdentifier            OPTIONAL,
--     authorityCertIssuer       [1] GeneralNames             OPTIONAL,
--     authorityCertSerialNumber [2] CertificateSerialNumber  OPTIONAL }
abbrev pub authority_key_identifier : Grammar
authority_key_identifier =
    SEQUENCE
    (OPTIONAL (IMPLICIT context 0 key_identifier)
    (OPTIONAL (IMPLICIT context 1 general_names)
    (OPTIONAL (IMPLICIT context 2 certificate_serial_number)
    end)))

-- SubjectKeyIdentifier ::= KeyIdentifier
abbrev pub subject_key_identifier : Grammar
subject_key_identifier =
    key_identifier

-- KeyUsage ::= BIT STRING {
--      digitalSignature        (0),
--      nonRepudiation          (1),  -- recent editions of X.509 have
--                                 -- renamed this bit to contentCommitment
--      keyEncipherment         (2),
--      dataEncipherment        (3),
--      keyAgreement            (4),
--      keyCertSign             (5),
--      cRLSign                 (6),
--      encipherOnly            (7),
--      decipherOnly            (8) }
abbrev pub key_usage : Grammar
key_usage =
    NAMED_BITS

-- PrivateKeyUsagePeriod ::= SEQUENCE {
--      notBefore       [0]     GeneralizedTime OPTIONAL,
--      notAfter        [1]     GeneralizedTime OPTIONAL }
abbrev pub private_key_usage_period : Grammar
private_key_usage_period =
    SEQUENCE
    (OPTIONAL (IMPLICIT context 0 GENERALIZED_TIME)
    (OPTIONAL (IMPLICIT context 1 GENERALIZED_TIME)
    end))

-- CertPolicyId ::= OBJECT IDENTIFIER
abbrev pub cert_policy_id : Grammar
cert_policy_id =
    OBJECT_IDENTIFIER_39

-- PolicyQualifierId ::= OBJECT IDENTIFIER ( id-qt-cps | id-qt-unotice )
abbrev pub policy_qualifier_id : Grammar
policy_qualifier_id =
    OBJECT_IDENTIFIER_39

-- PolicyQualifierInfo ::= SEQUENCE {
--      policyQualifierId  PolicyQualifierId,
--      qualifier          ANY DEFINED BY policyQualifierId }
abbrev pub policy_qualifier_info : Grammar
policy_qualifier_info =
    SEQUENCE
    (field policy_qualifier_id
    (field ANY
    end))

-- PolicyInformation ::= SEQUENCE {
--      policyIdentifier   CertPolicyId,
--      policyQualifiers   SEQUENCE SIZE (1..MAX) OF
--              PolicyQualifierInfo OPTIONAL }
abbrev pub policy_information : Grammar
policy_information =
    SEQUENCE
    (field cert_policy_id
    (OPTIONAL (NOT_EMPTY (SEQUENCE_OF policy_qualifier_info))
    end))

-- CertificatePolicies ::= SEQUENCE SIZE (1..MAX) OF PolicyInformation
abbrev pub certificate_policies : Grammar
certificate_policies =
    NOT_EMPTY (SEQUENCE_OF policy_information)

-- CPSuri ::= IA5String
abbrev pub cp_suri : Grammar
cp_suri =
    IA5_STRING

-- a type within another: PolicyMapping
abbrev pub policy_mapping : Grammar
policy_mapping =
    SEQUENCE
    (field cert_policy_id
    (field cert_policy_id
    end))

-- PolicyMappings ::= SEQUENCE SIZE (1..MAX) OF SEQUENCE {
--      issuerDomainPolicy      CertPolicyId,
--      subjectDomainPolicy     CertPolicyId }
abbrev pub policy_mappings : Grammar
policy_mappings =
    NOT_EMPTY (SEQUENCE_OF policy_mapping)

-- SubjectAltName ::= GeneralNames
abbrev pub subject_alt_name : Grammar
subject_alt_name =
    general_names

-- IssuerAltName ::= GeneralNames
abbrev pub issuer_alt_name : Grammar
issuer_alt_name =
    general_names

-- SubjectDirectoryAttributes ::= SEQUENCE SIZE (1..MAX) OF Attribute
abbrev pub subject_directory_attributes : Grammar
subject_directory_attributes =
    NOT_EMPTY (SEQUENCE_OF attribute)

-- BasicConstraints ::= SEQUENCE {
--      cA                      BOOLEAN DEFAULT FALSE,
--      pathLenConstraint       INTEGER (0..MAX) OPTIONAL }
abbrev pub basic_constraints : Grammar
basic_constraints =
    SEQUENCE
    (DEFAULT (tlv tags.Boolean (boolean_contents false)) BOOLEAN
    (OPTIONAL NATURAL
    end))

-- BaseDistance ::= INTEGER (0..MAX)
abbrev pub base_distance : Grammar
base_distance =
    INTEGER_u8

-- GeneralSubtree ::= SEQUENCE {
--      base                    GeneralName,
--      minimum         [0]     BaseDistance DEFAULT 0,
--      maximum         [1]     BaseDistance OPTIONAL }
abbrev pub general_subtree : Grammar
general_subtree =
    SEQUENCE
    (field general_name
    (DEFAULT (tlv (marker_tag context (is_constructed tags.Integer) 0) (natural_contents 0)) (IMPLICIT context 0 base_distance)
    (OPTIONAL (IMPLICIT context 1 base_distance)
    end)))

-- GeneralSubtrees ::= SEQUENCE SIZE (1..MAX) OF GeneralSubtree
abbrev pub general_subtrees : Grammar
general_subtrees =
    NOT_EMPTY (SEQUENCE_OF general_subtree)

-- NameConstraints ::= SEQUENCE {
--      permittedSubtrees       [0]     GeneralSubtrees OPTIONAL,
--      excludedSubtrees        [1]     GeneralSubtrees OPTIONAL }
abbrev pub name_constraints : Grammar
name_constraints =
    SEQUENCE
    (OPTIONAL (IMPLICIT context 0 general_subtrees)
    (OPTIONAL (IMPLICIT context 1 general_subtrees)
    end))

-- SkipCerts ::= INTEGER (0..MAX)
abbrev pub skip_certs : Grammar
skip_certs =
    NATURAL

-- PolicyConstraints ::= SEQUENCE {
--      requireExplicitPolicy   [0]     SkipCerts OPTIONAL,
--      inhibitPolicyMapping    [1]     SkipCerts OPTIONAL }
abbrev pub policy_constraints : Grammar
policy_constraints =
    SEQUENCE
    (OPTIONAL (IMPLICIT context 0 skip_certs)
    (OPTIONAL (IMPLICIT context 1 skip_certs)
    end))

-- DistributionPointName ::= CHOICE {
--      fullName                [0]     GeneralNames,
--      nameRelativeToCRLIssuer [1]     RelativeDistinguishedName }
abbrev pub distribution_point_name : Grammar
distribution_point_name =
    CHOICE
    (IMPLICIT context 0 general_names)
    (IMPLICIT context 1 relative_distinguished_name)

-- ReasonFlags ::= BIT STRING {
--      unused                  (0),
--      keyCompromise           (1),
--      cACompromise            (2),
--      affiliationChanged      (3),
--      superseded              (4),
--      cessationOfOperation    (5),
--      certificateHold         (6),
--      privilegeWithdrawn      (7),
--      aACompromise            (8) }
abbrev pub reason_flags : Grammar
reason_flags =
    NAMED_BITS

-- DistributionPoint ::= SEQUENCE {
--      distributionPoint       [0]     DistributionPointName OPTIONAL,
--      reasons                 [1]     ReasonFlags OPTIONAL,
--      cRLIssuer               [2]     GeneralNames OPTIONAL }
abbrev pub distribution_point : Grammar
distribution_point =
    SEQUENCE
    (OPTIONAL (IMPLICIT context 0 distribution_point_name)
    (OPTIONAL (IMPLICIT context 1 reason_flags)
    (OPTIONAL (IMPLICIT context 2 general_names)
    end)))

-- CRLDistributionPoints ::= SEQUENCE SIZE (1..MAX) OF DistributionPoint
abbrev pub crl_distribution_points : Grammar
crl_distribution_points =
    NOT_EMPTY (SEQUENCE_OF distribution_point)

-- KeyPurposeId ::= OBJECT IDENTIFIER
abbrev pub key_purpose_id : Grammar
key_purpose_id =
    OBJECT_IDENTIFIER_39

-- ExtKeyUsageSyntax ::= SEQUENCE SIZE (1..MAX) OF KeyPurposeId
abbrev pub ext_key_usage_syntax : Grammar
ext_key_usage_syntax =
    NOT_EMPTY (SEQUENCE_OF key_purpose_id)

-- InhibitAnyPolicy ::= SkipCerts
abbrev pub inhibit_any_policy : Grammar
inhibit_any_policy =
    skip_certs

-- FreshestCRL ::= CRLDistributionPoints
abbrev pub freshest_crl : Grammar
freshest_crl =
    crl_distribution_points

-- AccessDescription  ::=  SEQUENCE {
--         accessMethod          OBJECT IDENTIFIER,
--         accessLocation        GeneralName  }
abbrev pub access_description : Grammar
access_description =
    SEQUENCE
    (field OBJECT_IDENTIFIER_39
    (field general_name
    end))

-- AuthorityInfoAccessSyntax  ::=
--         SEQUENCE SIZE (1..MAX) OF AccessDescription
abbrev pub authority_info_access_syntax : Grammar
authority_info_access_syntax =
    NOT_EMPTY (SEQUENCE_OF access_description)

-- SubjectInfoAccessSyntax  ::=
--         SEQUENCE SIZE (1..MAX) OF AccessDescription
abbrev pub subject_info_access_syntax : Grammar
subject_info_access_syntax =
    NOT_EMPTY (SEQUENCE_OF access_description)

-- CRLNumber ::= INTEGER (0..MAX)
abbrev pub crl_number : Grammar
crl_number =
    NATURAL

-- IssuingDistributionPoint ::= SEQUENCE {
--      distributionPoint          [0] DistributionPointName OPTIONAL,
--      onlyContainsUserCerts      [1] BOOLEAN DEFAULT FALSE,
--      onlyContainsCACerts        [2] BOOLEAN DEFAULT FALSE,
--      onlySomeReasons            [3] ReasonFlags OPTIONAL,
--      indirectCRL                [4] BOOLEAN DEFAULT FALSE,
--      onlyContainsAttributeCerts [5] BOOLEAN DEFAULT FALSE }
abbrev pub issuing_distribution_point : Grammar
issuing_distribution_point =
    SEQUENCE
    (OPTIONAL (IMPLICIT context 0 distribution_point_name)
    (DEFAULT (tlv (marker_tag context (is_constructed tags.Boolean) 1) (boolean_contents false)) (IMPLICIT context 1 BOOLEAN)
    (DEFAULT (tlv (marker_tag context (is_constructed tags.Boolean) 2) (boolean_contents false)) (IMPLICIT context 2 BOOLEAN)
    (OPTIONAL (IMPLICIT context 3 reason_flags)
    (DEFAULT (tlv (marker_tag context (is_constructed tags.Boolean) 4) (boolean_contents false)) (IMPLICIT context 4 BOOLEAN)
    (DEFAULT (tlv (marker_tag context (is_constructed tags.Boolean) 5) (boolean_contents false)) (IMPLICIT context 5 BOOLEAN)
    end))))))

-- BaseCRLNumber ::= CRLNumber
abbrev pub base_crl_number : Grammar
base_crl_number =
    crl_number

-- CRLReason ::= ENUMERATED {
--      unspecified             (0),
--      keyCompromise           (1),
--      cACompromise            (2),
--      affiliationChanged      (3),
--      superseded              (4),
--      cessationOfOperation    (5),
--      certificateHold         (6),
--      removeFromCRL           (8),
--      privilegeWithdrawn      (9),
--      aACompromise           (10) }
abbrev pub crl_reason : Grammar
crl_reason =
    NAMED number_of_crl_reason all_of_crl_reason tags.Enumerated

-- CertificateIssuer ::= GeneralNames
abbrev pub certificate_issuer : Grammar
certificate_issuer =
    general_names

-- HoldInstructionCode ::= OBJECT IDENTIFIER
abbrev pub hold_instruction_code : Grammar
hold_instruction_code =
    OBJECT_IDENTIFIER_39

-- InvalidityDate ::=  GeneralizedTime
abbrev pub invalidity_date : Grammar
invalidity_date =
    GENERALIZED_TIME

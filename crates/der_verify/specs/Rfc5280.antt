-- The rules of RFC 5280 for certificates beyond the grammar: each rule is a test that is true if the certificate breaks it.
use Rattle.std.specs.Prelude.{ℕ, ◌==◌, nat_eq, nat_lt, nat_le, ◌≡◌, List, [], ◌∷◌, length, take, drop, Bool, true, false, not, ◌&&◌, ◌||◌, Option, Some, None, is_some}
use Rattle.std.specs.Borrow.{Bor}
use Rattle.std.specs.Bool.{beq}
use Rattle.std.specs.List.{list_any}
use Rattle.std.specs.Cmp.Lexicographic.{pointwise}
use Rattle.der_elem.specs.declared.form.Form as form
use Rattle.der_opaque.specs.ObjectIdentifierRef as identifier
use Rattle.der_opaque.specs.OctetStringRef as string
use Rattle.der_numbers.specs.IntRef.{contents_of}
use Rattle.der_lists.specs.ListRef as list
use Rattle.der_pkix.specs.declared.algorithm_identifier.AlgorithmIdentifier.{AlgorithmIdentifier}
use Rattle.der_pkix.specs.declared.certificate.tbs_certificate.TbsCertificate.{TbsCertificate}
use Rattle.der_pkix.specs.declared.certificate.extension.Extension.{Extension}
use Rattle.der_pkix.specs.declared.certificate.extensions.Extensions.{Extensions}
use Rattle.der_pkix.specs.declared.certificate.certificate.Certificate.{Certificate}
use Rattle.der_pkix.specs.declared.name.rdn_sequence.RdnSequence.{RdnSequence}
use Rattle.der_pkix.specs.contracts.algorithm_identifier.AlgorithmIdentifierPartialEq.TheImpl as equality
use Rattle.der_pkix.specs.Certificate.Certificate as certificate
use Rattle.der_pkix.specs.Certificate.SubjectPublicKeyInfo as key
use Rattle.der_pkix.specs.Certificate.TbsCertificate as tbs
use Rattle.der_pkix.specs.Certificate.Validity as validity
use Rattle.der_pkix.specs.Certificate.Extension as extension
use Rattle.der_pkix.specs.Name.RdnSequence as name
use Rattle.der_verify.specs.Alternatives.{one_lacks}
use Rattle.der_verify.specs.Elements.{one_within, within}
use Rattle.der_verify.specs.Extensions.{has_identifier, value_of, AreExtensions}
use Rattle.der_verify.specs.Inside.{has_distance, has_half_an_issuer, has_key_identifier, has_odd_address, has_one_bit, has_path_length, has_point_nowhere, is_empty_sequence, maps_any_policy, repeats_policy, signs_certificates}
use Rattle.der_verify.specs.Texts.{breaks_name}
use Rattle.der_verify.specs.Time.{is_early, seconds_of}
use Rattle.der_verify.specs.declared.rfc5280.alternatives.Syntax.{Syntax}
use Rattle.der_verify.specs.declared.rfc5280.alternatives.Syntax.TheVariants.{Address, Host, Mailbox, Resource}
use Rattle.der_verify.specs.declared.rfc5280.texts.TextRule.{TextRule}
use Rattle.der_verify.specs.declared.rfc5280.texts.TextRule.TheVariants.{Characters, Size, StringType}
use Rattle.der_verify.specs.declared.rfc5280.CertificateRule.{CertificateRule}
use Rattle.der_verify.specs.declared.rfc5280.CertificateRule.TheVariants as rule

-- the extensions; none if the field is absent
abbrev pub AreListed : form.Ghosts Extension → Option Extensions → List Extension → Type 0
AreListed F None items = items ≡ []
AreListed F (Some x) items = AreExtensions F x items

-- whether a name has no attributes
abbrev pub is_empty_name : RdnSequence → Bool
is_empty_name n = length (list.octets_of (name.items_of n)) == 0

-- whether an extension has this identifier, and is critical or not as given
abbrev pub is_so_critical : List ℕ → Bool → Extension → Bool
is_so_critical octets critical e = has_identifier octets e && beq (extension.critical e) critical

-- whether there is an extension with this identifier that is critical or not as given
abbrev pub has_criticality : List ℕ → Bool → List Extension → Bool
has_criticality octets critical = list_any (is_so_critical octets critical)

-- whether two extensions have the same identifier
abbrev pub has_repeated : List Extension → Bool
has_repeated [] = false
has_repeated (e ∷ others) = list_any (has_identifier (identifier.octets_of (extension.extn_id e))) others || has_repeated others

-- whether contents octets are those of a positive INTEGER: the sign bit is 0, and they are not 00
abbrev pub is_positive : List ℕ → Bool
is_positive [] = false
is_positive (x ∷ xs) = nat_lt x 128 && not (x == 0 && length xs == 0)

-- the octets of BasicConstraints say that cA is TRUE: 30, a length, 01 01 FF
abbrev pub says_true : List ℕ → Bool
says_true octets = nat_le 5 (length octets) && pointwise nat_eq (take 3 (drop 2 octets)) (1 ∷ 1 ∷ 255 ∷ [])

-- identifiers of section 4.2.1 (id-ce, 2.5.29) and 4.2.2 (id-pe, 1.3.6.1.5.5.7.1)
abbrev pub id_ce : ℕ → List ℕ
id_ce n = 85 ∷ 29 ∷ n ∷ []

abbrev pub id_pe : ℕ → List ℕ
id_pe n = 43 ∷ 6 ∷ 1 ∷ 5 ∷ 5 ∷ 7 ∷ 1 ∷ n ∷ []

-- basicConstraints of a CA, not critical
abbrev pub is_uncritical_ca : Extension → Bool
is_uncritical_ca e = has_identifier (id_ce 19) e && (not (extension.critical e) && says_true (string.octets_of (extension.extn_value e)))

-- the rules about criticality: the identifier of the extension, and the criticality that it must not have
abbrev pub forbidden : CertificateRule → Option (List ℕ × Bool)
-- 4.2.1.1, 4.2.1.2, 4.2.1.8, 4.2.1.15, 4.2.2.1, 4.2.2.2: not critical
forbidden rule.AuthorityKeyIdentifierIsNotCritical = Some (id_ce 35, true)
forbidden rule.SubjectKeyIdentifierIsNotCritical = Some (id_ce 14, true)
forbidden rule.SubjectDirectoryAttributesIsNotCritical = Some (id_ce 9, true)
forbidden rule.FreshestCrlIsNotCritical = Some (id_ce 46, true)
forbidden rule.AuthorityInfoAccessIsNotCritical = Some (id_pe 1, true)
forbidden rule.SubjectInfoAccessIsNotCritical = Some (id_pe 11, true)
-- 4.2.1.10, 4.2.1.11, 4.2.1.14: critical
forbidden rule.NameConstraintsIsCritical = Some (id_ce 30, false)
forbidden rule.PolicyConstraintsIsCritical = Some (id_ce 36, false)
forbidden rule.InhibitAnyPolicyIsCritical = Some (id_ce 54, false)
forbidden _ = None

-- `forbidden` with the identifier as a slice
abbrev pub seen_forbidden : Option (Bor (List ℕ) × Bool) → Option (List ℕ × Bool)
seen_forbidden None = None
seen_forbidden (Some (octets, critical)) = Some (octets.now, critical)

-- the values of extensions that the rules below look into
abbrev pub is_ca : List Extension → Bool
is_ca listed = says_true (value_of (id_ce 19) listed)

abbrev pub is_absent : List ℕ → Bool
is_absent value = length value == 0

-- the octets of a name's parts
abbrev pub octets_of_name : RdnSequence → List ℕ
octets_of_name n = list.octets_of (name.items_of n)

-- the issuer and the subject have the same octets
abbrev pub is_self_issued : TbsCertificate → Bool
is_self_issued c = pointwise nat_eq (octets_of_name (tbs.issuer c)) (octets_of_name (tbs.subject c))

-- a name of subjectAltName or issuerAltName lacks its syntax
abbrev pub alternative_lacks : Syntax → List Extension → Bool
alternative_lacks syntax listed = one_lacks syntax (value_of (id_ce 17) listed) || one_lacks syntax (value_of (id_ce 18) listed)

-- whether a certificate with these extensions breaks a rule about policies, names or points
abbrev pub breaks_inside : CertificateRule → List Extension → Bool
-- 4.2.1.4: "A certificate policy OID MUST NOT appear more than once in a certificate policies extension."
breaks_inside rule.PoliciesStandOnce listed = repeats_policy (value_of (id_ce 32) listed)
-- 4.2.1.5: "Policies MUST NOT be mapped either to or from the special value anyPolicy"
breaks_inside rule.AnyPolicyIsNotMapped listed = maps_any_policy (value_of (id_ce 33) listed)
-- 4.2.1.6, 4.2.1.7
breaks_inside rule.MailboxesHaveSyntax listed = alternative_lacks Mailbox listed
breaks_inside rule.DnsNamesHaveSyntax listed = alternative_lacks Host listed
breaks_inside rule.UrisHaveSchemes listed = alternative_lacks Resource listed
breaks_inside rule.AddressesHave4Or16Octets listed = alternative_lacks Address listed
-- 4.2.1.13: "either distributionPoint or cRLIssuer MUST be present"
breaks_inside rule.PointsHaveNames listed = has_point_nowhere (value_of (id_ce 31) listed)
breaks_inside _ listed = false

-- whether a certificate with these extensions breaks a rule about constraints
abbrev pub breaks_constraints : CertificateRule → List Extension → Bool
-- 4.2.1.9: "unless the cA boolean is asserted and the key usage extension asserts the keyCertSign bit"
breaks_constraints rule.PathLengthOnlyInCa listed = has_path_length (value_of (id_ce 19) listed) && not (is_ca listed && signs_certificates (value_of (id_ce 15) listed))
-- 4.2.1.10: "MUST be used only in a CA certificate"; "either the permittedSubtrees field or the excludedSubtrees MUST be present"; "the minimum MUST be zero, and maximum MUST be absent"; addresses with masks have 8 or 32 octets
breaks_constraints rule.NameConstraintsOnlyInCa listed = not (is_absent (value_of (id_ce 30) listed)) && not (is_ca listed)
breaks_constraints rule.NameConstraintsIsNotEmpty listed = is_empty_sequence (value_of (id_ce 30) listed)
breaks_constraints rule.NameConstraintsHasNoDistances listed = one_within has_distance (within 48 (value_of (id_ce 30) listed))
breaks_constraints rule.ConstrainedAddressesHave8Or32Octets listed = one_within has_odd_address (within 48 (value_of (id_ce 30) listed))
-- 4.2.1.11: "Conforming CAs MUST NOT issue certificates where policy constraints is an empty sequence."
breaks_constraints rule.PolicyConstraintsIsNotEmpty listed = is_empty_sequence (value_of (id_ce 36) listed)
breaks_constraints r listed = breaks_inside r listed

-- whether a certificate with these extensions breaks a rule about keys and their usage
abbrev pub breaks_usage : CertificateRule → TbsCertificate → List Extension → Bool
-- 4.1.2.6: the subject of a CA is not empty
breaks_usage rule.SubjectOfCaIsNotEmpty c listed = is_empty_name (tbs.subject c) && is_ca listed
-- 4.2.1.2: a CA has a subjectKeyIdentifier
breaks_usage rule.CaHasSubjectKeyIdentifier c listed = is_ca listed && is_absent (value_of (id_ce 14) listed)
-- 4.2.1.1: a keyIdentifier is present, unless the certificate is self-signed, which its names tell here
breaks_usage rule.AuthorityHasKeyIdentifier c listed = not (is_self_issued c) && not (has_key_identifier (value_of (id_ce 35) listed))
-- A.2: "authorityCertIssuer and authorityCertSerialNumber MUST both be present or both be absent"
breaks_usage rule.AuthorityIssuerHasSerialNumber c listed = has_half_an_issuer (value_of (id_ce 35) listed)
-- 4.2.1.3: a CA has keyUsage; "at least one of the bits MUST be set to 1"; keyCertSign stands only beside cA
breaks_usage rule.CaHasKeyUsage c listed = is_ca listed && is_absent (value_of (id_ce 15) listed)
breaks_usage rule.KeyUsageHasABit c listed = not (is_absent (value_of (id_ce 15) listed)) && not (has_one_bit (value_of (id_ce 15) listed))
breaks_usage rule.KeyCertSignOnlyInCa c listed = signs_certificates (value_of (id_ce 15) listed) && not (is_ca listed)
breaks_usage r c listed = breaks_constraints r listed

-- an attribute of the issuer or of the subject breaks a rule
abbrev pub breaks_names : TextRule → TbsCertificate → Bool
breaks_names r c = breaks_name r (octets_of_name (tbs.issuer c)) || breaks_name r (octets_of_name (tbs.subject c))

-- Ed25519, Ed448, X25519 and X448 are 1.3.101.110 to 113; "the parameters MUST be absent" (RFC 8410 3)
abbrev pub is_of_curve : List ℕ → Bool
is_of_curve octets = list_any (λ n. pointwise nat_eq octets (43 ∷ 101 ∷ n ∷ [])) (110 ∷ 111 ∷ 112 ∷ 113 ∷ [])

abbrev pub has_odd_parameters : AlgorithmIdentifier → Bool
has_odd_parameters a = is_some a.parameters && is_of_curve (identifier.octets_of a.oid)

-- whether the other fields of a certificate break a rule
abbrev pub breaks_fields : CertificateRule → TbsCertificate → List Extension → Bool
-- 4.1.2.1: the version is 1 (0), 2 (1) or 3 (2)
breaks_fields rule.VersionIsKnown c listed = nat_lt 2 (tbs.version c)
-- 4.1.2.5: notAfter is not before notBefore; dates through 2049 are UTCTimes
breaks_fields rule.ValidityIsNotEmpty c listed = nat_lt (seconds_of (validity.not_after (tbs.validity c))) (seconds_of (validity.not_before (tbs.validity c)))
breaks_fields rule.DatesThrough2049AreUtcTimes c listed = is_early (validity.not_before (tbs.validity c)) || is_early (validity.not_after (tbs.validity c))
-- A.1, B: sizes, types of strings and characters of the texts of issuer and subject
breaks_fields rule.TextsHaveSizes c listed = breaks_names Size c
breaks_fields rule.TextsHaveStringTypes c listed = breaks_names StringType c
breaks_fields rule.PrintableStringsHaveTheirCharacters c listed = breaks_names Characters c
-- 4.1.1.2, 4.1.2.7
breaks_fields rule.CurvesHaveNoParameters c listed = has_odd_parameters (tbs.signature c) || has_odd_parameters (key.algorithm (tbs.subject_public_key_info c))
breaks_fields r c listed = breaks_usage r c listed

-- whether a certificate with these extensions breaks one of the other rules
abbrev pub breaks_otherwise : CertificateRule → TbsCertificate → List Extension → Bool
-- 4.1.2.1: only version 3 (2) has extensions
breaks_otherwise rule.ExtensionsInVersion3 c listed = is_some (tbs.extensions c) && not (tbs.version c == 2)
-- 4.1.2.2: the serial number is positive
breaks_otherwise rule.SerialNumberIsPositive c listed = not (is_positive (contents_of (tbs.serial_number c)))
-- 4.1.2.2: the serial number has at most 20 octets
breaks_otherwise rule.SerialNumberHasAtMost20Octets c listed = nat_lt 20 (length (contents_of (tbs.serial_number c)))
-- 4.1.2.4: the issuer is not empty
breaks_otherwise rule.IssuerIsNotEmpty c listed = is_empty_name (tbs.issuer c)
-- 4.1.2.6: if the subject is empty, a critical subjectAltName is present
breaks_otherwise rule.EmptySubjectHasCriticalAltName c listed = is_empty_name (tbs.subject c) && not (has_criticality (id_ce 17) true listed)
-- 4.1.2.8: only versions 2 (1) and 3 (2) have unique identifiers
breaks_otherwise rule.UniqueIdentifiersInVersion2 c listed = (is_some (tbs.issuer_unique_id c) || is_some (tbs.subject_unique_id c)) && tbs.version c == 0
-- 4.2: no extension is repeated
breaks_otherwise rule.ExtensionsStandOnce c listed = has_repeated listed
-- 4.2.1.9: basicConstraints of a CA is critical
breaks_otherwise rule.BasicConstraintsOfCaIsCritical c listed = list_any is_uncritical_ca listed
breaks_otherwise r c listed = breaks_fields r c listed

-- whether an extension has a criticality that a rule forbids
abbrev pub breaks_criticality : Option (List ℕ × Bool) → List Extension → Bool
breaks_criticality None extensions = false
breaks_criticality (Some (octets, critical)) extensions = has_criticality octets critical extensions

-- whether the signed part breaks a rule
abbrev pub breaks_within : CertificateRule → TbsCertificate → List Extension → Bool
breaks_within r c listed = breaks_otherwise r c listed || breaks_criticality (forbidden r) listed

-- whether the signed algorithm is equal to the one outside
abbrev pub same_algorithms : Certificate → Bool
same_algorithms c = equality.ghosts.eq (tbs.signature (certificate.tbs_certificate c)) (certificate.signature_algorithm c)

-- whether a certificate with these extensions breaks a rule
abbrev pub breaks : CertificateRule → Certificate → List Extension → Bool
-- 4.1.1.2, 4.1.2.3: the two algorithms are equal
breaks rule.AlgorithmsAgree c listed = not (same_algorithms c)
breaks r c listed = breaks_within r (certificate.tbs_certificate c) listed

-- all rules, in the order in which `check_certificate` returns them
abbrev pub certificate_rules : List CertificateRule
certificate_rules =
    rule.AlgorithmsAgree
    ∷ rule.ExtensionsInVersion3
    ∷ rule.SerialNumberIsPositive
    ∷ rule.SerialNumberHasAtMost20Octets
    ∷ rule.IssuerIsNotEmpty
    ∷ rule.EmptySubjectHasCriticalAltName
    ∷ rule.UniqueIdentifiersInVersion2
    ∷ rule.ExtensionsStandOnce
    ∷ rule.AuthorityKeyIdentifierIsNotCritical
    ∷ rule.SubjectKeyIdentifierIsNotCritical
    ∷ rule.SubjectDirectoryAttributesIsNotCritical
    ∷ rule.FreshestCrlIsNotCritical
    ∷ rule.AuthorityInfoAccessIsNotCritical
    ∷ rule.SubjectInfoAccessIsNotCritical
    ∷ rule.BasicConstraintsOfCaIsCritical
    ∷ rule.NameConstraintsIsCritical
    ∷ rule.PolicyConstraintsIsCritical
    ∷ rule.InhibitAnyPolicyIsCritical
    ∷ rule.VersionIsKnown
    ∷ rule.ValidityIsNotEmpty
    ∷ rule.DatesThrough2049AreUtcTimes
    ∷ rule.SubjectOfCaIsNotEmpty
    ∷ rule.TextsHaveSizes
    ∷ rule.TextsHaveStringTypes
    ∷ rule.PrintableStringsHaveTheirCharacters
    ∷ rule.CurvesHaveNoParameters
    ∷ rule.CaHasSubjectKeyIdentifier
    ∷ rule.AuthorityHasKeyIdentifier
    ∷ rule.AuthorityIssuerHasSerialNumber
    ∷ rule.CaHasKeyUsage
    ∷ rule.KeyUsageHasABit
    ∷ rule.KeyCertSignOnlyInCa
    ∷ rule.PathLengthOnlyInCa
    ∷ rule.NameConstraintsOnlyInCa
    ∷ rule.NameConstraintsIsNotEmpty
    ∷ rule.NameConstraintsHasNoDistances
    ∷ rule.ConstrainedAddressesHave8Or32Octets
    ∷ rule.PolicyConstraintsIsNotEmpty
    ∷ rule.PoliciesStandOnce
    ∷ rule.AnyPolicyIsNotMapped
    ∷ rule.DnsNamesHaveSyntax
    ∷ rule.MailboxesHaveSyntax
    ∷ rule.UrisHaveSchemes
    ∷ rule.AddressesHave4Or16Octets
    ∷ rule.PointsHaveNames ∷ []

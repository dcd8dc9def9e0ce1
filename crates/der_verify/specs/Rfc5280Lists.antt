-- The rules of RFC 5280 for lists of revoked certificates beyond the grammar: each rule is a test that is true if the list breaks it.
use Rattle.std.specs.Prelude.{◌≡◌, ℕ, ◌==◌, List, [], ◌∷◌, length, Bool, true, false, not, ◌&&◌, ◌||◌, Option, Some, None, is_some, is_none}
use Rattle.std.specs.List.{list_any}
use Rattle.der_elem.specs.declared.form.Form as form
use Rattle.der_lists.specs.ListRef as list_ref
use Rattle.der_lists.specs.declared.list_ref.ListRef.{ListRef}
use Rattle.der_pkix.specs.declared.certificate.extension.Extension.{Extension}
use Rattle.der_pkix.specs.declared.certificate.extensions.Extensions.{Extensions}
use Rattle.der_pkix.specs.declared.certificate.time.Time.{Time}
use Rattle.der_pkix.specs.declared.crl.certificate_list.CertificateList.{CertificateList}
use Rattle.der_pkix.specs.declared.crl.tbs_cert_list.TbsCertList.{TbsCertList}
use Rattle.der_pkix.specs.declared.crl.revoked_certificate.RevokedCertificate.{RevokedCertificate}
use Rattle.der_pkix.specs.contracts.algorithm_identifier.AlgorithmIdentifierPartialEq.TheImpl as equality
use Rattle.der_pkix.specs.Crl.CertificateList as list
use Rattle.der_pkix.specs.Crl.TbsCertList as tbs
use Rattle.der_pkix.specs.Crl.RevokedCertificate as entry
use Rattle.der_verify.specs.Extensions.{value_of, AreExtensions}
use Rattle.der_verify.specs.Inside.{has_early_date, has_key_identifier, has_two_kinds, is_empty_sequence, is_odd_number, is_removed}
use Rattle.der_verify.specs.Rfc5280.{breaks_criticality, has_criticality, has_repeated, id_ce, id_pe, is_absent, is_empty_name}
use Rattle.der_verify.specs.Shown.{AreShown}
use Rattle.der_verify.specs.Time.{is_early}
use Rattle.der_verify.specs.declared.rfc5280.lists.ListRule.{ListRule}
use Rattle.der_verify.specs.declared.rfc5280.lists.ListRule.TheVariants as rule

-- the extensions of an entry, if the field is present
abbrev pub ShowsExtensions : form.Ghosts Extension → Option Extensions → Option (List Extension) → Type 0
ShowsExtensions F None None = Unit {0}
ShowsExtensions F (Some x) (Some items) = AreExtensions F x items
ShowsExtensions F _ _ = ⊥

abbrev pub EntryShows : form.Ghosts Extension → RevokedCertificate → Option (List Extension) → Type 0
EntryShows F e shown = ShowsExtensions F (entry.crl_entry_extensions e) shown

-- the entries, each by its extensions; none if the field is absent
abbrev pub AreEntries : form.Ghosts RevokedCertificate → form.Ghosts Extension → Option (ListRef RevokedCertificate) → List (Option (List Extension)) → Type 0
AreEntries R F None entries = entries ≡ []
AreEntries R F (Some l) entries = AreShown R (EntryShows F) (list_ref.octets_of l) entries

-- the list of revoked certificates is present and has no entries
abbrev pub is_empty_list : Option (ListRef RevokedCertificate) → Bool
is_empty_list None = false
is_empty_list (Some l) = length (list_ref.octets_of l) == 0

-- whether an extension of an entry has this identifier, and is critical or not as given
abbrev pub has_criticality_within : List ℕ → Bool → Option (List Extension) → Bool
has_criticality_within octets critical None = false
has_criticality_within octets critical (Some items) = has_criticality octets critical items

abbrev pub entry_has_criticality : List ℕ → Bool → List (Option (List Extension)) → Bool
entry_has_criticality octets critical = list_any (has_criticality_within octets critical)

-- whether an entry has extensions
abbrev pub entry_has_extensions : List (Option (List Extension)) → Bool
entry_has_extensions = list_any (λ e. is_some e)

-- whether the version is 2 (1)
abbrev pub is_version_2 : Option ℕ → Bool
is_version_2 None = false
is_version_2 (Some n) = n == 1

-- the rules about the criticality of extensions of the list: the identifier, and the criticality that it must not have
abbrev pub forbidden_of_list : ListRule → Option (List ℕ × Bool)
forbidden_of_list rule.CrlNumberIsNotCritical = Some (id_ce 20, true)
forbidden_of_list rule.DeltaCrlIndicatorIsCritical = Some (id_ce 27, false)
forbidden_of_list rule.IssuingDistributionPointIsCritical = Some (id_ce 28, false)
forbidden_of_list rule.FreshestCrlIsNotCritical = Some (id_ce 46, true)
forbidden_of_list rule.AuthorityInfoAccessIsNotCritical = Some (id_pe 1, true)
forbidden_of_list _ = None

-- the rules about the criticality of extensions of entries
abbrev pub forbidden_of_entry : ListRule → Option (List ℕ × Bool)
forbidden_of_entry rule.ReasonCodeIsNotCritical = Some (id_ce 21, true)
forbidden_of_entry rule.InvalidityDateIsNotCritical = Some (id_ce 24, true)
forbidden_of_entry rule.CertificateIssuerIsCritical = Some (id_ce 29, false)
forbidden_of_entry _ = None

-- whether an entry repeats an extension
abbrev pub has_repeated_within : Option (List Extension) → Bool
has_repeated_within None = false
has_repeated_within (Some items) = has_repeated items

-- whether the reason of an entry is removeFromCRL
abbrev pub is_removed_within : Option (List Extension) → Bool
is_removed_within None = false
is_removed_within (Some items) = is_removed (value_of (id_ce 21) items)

-- the version is another than 2 (1)
abbrev pub is_other_version : Option ℕ → Bool
is_other_version None = false
is_other_version (Some n) = not (n == 1)

-- the date, if there is one, is through 2049 and a GeneralizedTime
abbrev pub is_early_if_there : Option Time → Bool
is_early_if_there None = false
is_early_if_there (Some time) = is_early time

-- the revocationDate of an entry, if there are entries, is through 2049 and a GeneralizedTime
abbrev pub revokes_early : Option (ListRef RevokedCertificate) → Bool
revokes_early None = false
revokes_early (Some l) = has_early_date (list_ref.octets_of l)

-- whether a list with these extensions and these entries breaks a rule about values
abbrev pub list_breaks_inside : ListRule → TbsCertList → List Extension → List (Option (List Extension)) → Bool
-- 5.1.2.1: "this field MUST be present and MUST specify version 2"; A.1: "if present, MUST be v2"
list_breaks_inside rule.VersionIs2 c listed entries = is_other_version (tbs.version c)
-- 5.1.2.4, 5.1.2.5, 5.1.2.6: "CRL issuers conforming to this profile MUST encode thisUpdate as UTCTime for dates through the year 2049"
list_breaks_inside rule.DatesThrough2049AreUtcTimes c listed entries = is_early (tbs.this_update c) || is_early_if_there (tbs.next_update c) || revokes_early (tbs.revoked_certificates c)
-- 5.2.1: "Conforming CRL issuers MUST use the key identifier method, and MUST include this extension in all CRLs issued."
list_breaks_inside rule.AuthorityHasKeyIdentifier c listed entries = not (has_key_identifier (value_of (id_ce 35) listed))
-- 5.2.3: "MUST include this extension in all CRLs"; "MUST NOT use CRLNumber values longer than 20 octets"
list_breaks_inside rule.CrlNumberIsThere c listed entries = is_absent (value_of (id_ce 20) listed)
list_breaks_inside rule.CrlNumberHasAtMost20Octets c listed entries = is_odd_number (value_of (id_ce 20) listed)
-- 5.2.5: the extension is not "an empty sequence"; "at most one of onlyContainsUserCerts, onlyContainsCACerts, and onlyContainsAttributeCerts may be set to TRUE"
list_breaks_inside rule.IssuingDistributionPointIsNotEmpty c listed entries = is_empty_sequence (value_of (id_ce 28) listed)
list_breaks_inside rule.IssuingDistributionPointHasOneKind c listed entries = has_two_kinds (value_of (id_ce 28) listed)
-- 5.3, 4.2: no extension of an entry is repeated
list_breaks_inside rule.EntryExtensionsStandOnce c listed entries = list_any has_repeated_within entries
-- 5.3.1: "The removeFromCRL (8) reasonCode value may only appear in delta CRLs"
list_breaks_inside rule.RemoveFromCrlOnlyInDelta c listed entries = is_absent (value_of (id_ce 27) listed) && list_any is_removed_within entries
list_breaks_inside _ c listed entries = false

-- whether a list with these extensions and these entries breaks one of the other rules
abbrev pub list_breaks_otherwise : ListRule → TbsCertList → List Extension → List (Option (List Extension)) → Bool
-- 5.1.2.1: only version 2 has extensions
list_breaks_otherwise rule.ExtensionsInVersion2 c listed entries = (is_some (tbs.crl_extensions c) || entry_has_extensions entries) && not (is_version_2 (tbs.version c))
-- 5.1.2.3: the issuer is not empty
list_breaks_otherwise rule.IssuerIsNotEmpty c listed entries = is_empty_name (tbs.issuer c)
-- 5.1.2.5: nextUpdate is present
list_breaks_otherwise rule.NextUpdateIsThere c listed entries = is_none (tbs.next_update c)
-- 5.1.2.6: "When there are no revoked certificates, the revoked certificates list MUST be absent."
list_breaks_otherwise rule.EmptyListIsAbsent c listed entries = is_empty_list (tbs.revoked_certificates c)
-- 5.2, 4.2: no extension is repeated
list_breaks_otherwise rule.ExtensionsStandOnce c listed entries = has_repeated listed
list_breaks_otherwise r c listed entries = list_breaks_inside r c listed entries

-- whether an extension of an entry has a criticality that a rule forbids
abbrev pub entry_breaks_criticality : Option (List ℕ × Bool) → List (Option (List Extension)) → Bool
entry_breaks_criticality None entries = false
entry_breaks_criticality (Some (octets, critical)) entries = entry_has_criticality octets critical entries

-- whether the signed part breaks a rule
abbrev pub list_breaks_within : ListRule → TbsCertList → List Extension → List (Option (List Extension)) → Bool
list_breaks_within r c listed entries =
    list_breaks_otherwise r c listed entries || breaks_criticality (forbidden_of_list r) listed || entry_breaks_criticality (forbidden_of_entry r) entries

-- whether the signed algorithm is equal to the one outside
abbrev pub list_same_algorithms : CertificateList → Bool
list_same_algorithms c = equality.ghosts.eq (tbs.signature (list.tbs_cert_list c)) (list.signature_algorithm c)

-- whether a list with these extensions and these entries breaks a rule
abbrev pub list_breaks : ListRule → CertificateList → List Extension → List (Option (List Extension)) → Bool
-- 5.1.1.2, 5.1.2.2: the two algorithms are equal
list_breaks rule.AlgorithmsAgree c listed entries = not (list_same_algorithms c)
list_breaks r c listed entries = list_breaks_within r (list.tbs_cert_list c) listed entries

-- all rules, in the order in which `check_list` returns them
abbrev pub list_rules : List ListRule
list_rules =
    rule.AlgorithmsAgree
    ∷ rule.ExtensionsInVersion2
    ∷ rule.IssuerIsNotEmpty
    ∷ rule.NextUpdateIsThere
    ∷ rule.EmptyListIsAbsent
    ∷ rule.ExtensionsStandOnce
    ∷ rule.CrlNumberIsNotCritical
    ∷ rule.DeltaCrlIndicatorIsCritical
    ∷ rule.IssuingDistributionPointIsCritical
    ∷ rule.FreshestCrlIsNotCritical
    ∷ rule.AuthorityInfoAccessIsNotCritical
    ∷ rule.ReasonCodeIsNotCritical
    ∷ rule.InvalidityDateIsNotCritical
    ∷ rule.CertificateIssuerIsCritical
    ∷ rule.VersionIs2
    ∷ rule.DatesThrough2049AreUtcTimes
    ∷ rule.AuthorityHasKeyIdentifier
    ∷ rule.CrlNumberIsThere
    ∷ rule.CrlNumberHasAtMost20Octets
    ∷ rule.IssuingDistributionPointIsNotEmpty
    ∷ rule.IssuingDistributionPointHasOneKind
    ∷ rule.EntryExtensionsStandOnce
    ∷ rule.RemoveFromCrlOnlyInDelta ∷ []

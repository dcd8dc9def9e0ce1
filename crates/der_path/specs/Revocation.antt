-- What a list of revoked certificates says of a certificate (RFC 5280 section 6.3.3). The path and the signature of the list's issuer ((f), (g)) are the caller's.
use Rattle.std.specs.Prelude.{◌≡◌, ℕ, nat_eq, nat_lt, List, [], ◌∷◌, Bool, true, false, not, ◌&&◌, if◌then◌else◌, Option, Some, None, is_some, Result, Ok, Err, Vec}
use Rattle.std.specs.declared.alloc.Global.{Global}
use Rattle.std.specs.Cmp.Lexicographic.{pointwise}
use Rattle.std.specs.List.{list_any}
use Rattle.der_extensions.specs.declared.extension.crl_reason.CrlReason.{CrlReason}
use Rattle.der_extensions.specs.declared.extension.crl_reason.CrlReason.TheVariants as reason
use Rattle.der_pkix.specs.Certificate.Certificate as certificate
use Rattle.der_pkix.specs.Crl.CertificateList as list
use Rattle.der_pkix.specs.declared.certificate.certificate.Certificate.{Certificate}
use Rattle.der_pkix.specs.declared.certificate.extension.Extension.{Extension}
use Rattle.der_pkix.specs.declared.certificate.time.Time.{Time}
use Rattle.der_pkix.specs.declared.crl.certificate_list.CertificateList.{CertificateList}
use Rattle.der_verify.specs.Time.{seconds_of}
use Rattle.der_path.specs.declared.list_step.ListStep.{ListStep}
use Rattle.der_path.specs.declared.list_step.ListStep.TheVariants as step
use Rattle.der_path.specs.declared.names.Part.{Part}
use Rattle.der_path.specs.declared.names.PathName.{PathName}
use Rattle.der_path.specs.declared.names.PathName.TheVariants as kept
use Rattle.der_path.specs.declared.revocation.ListError.{ListError}
use Rattle.der_path.specs.declared.revocation.ListError.TheVariants as error
use Rattle.der_path.specs.declared.revocation.ListStatus.{ListStatus}
use Rattle.der_path.specs.declared.revocation.Revoked.{Revoked}
use Rattle.der_path.specs.declared.revocation_facts.Entry.{Entry}
use Rattle.der_path.specs.declared.revocation_facts.Entry.TheVariants as entry
use Rattle.der_path.specs.declared.revocation_facts.EntryFacts.{EntryFacts}
use Rattle.der_path.specs.declared.revocation_facts.ListFacts.{ListFacts}
use Rattle.der_path.specs.declared.revocation_facts.PointName.{PointName}
use Rattle.der_path.specs.declared.revocation_facts.PointName.TheVariants as name
use Rattle.der_path.specs.declared.revocation_facts.Scope.{Scope}
use Rattle.der_path.specs.declared.revocation_facts.Target.{Target}
use Rattle.der_path.specs.Reasons.{all_reasons, has_new, reasons_of}
use Rattle.der_path.specs.RevocationFacts.{ShowsList, ShowsTarget}
use Rattle.der_path.specs.Subtrees.{same_names}

-- an entry that cannot be read, or has a critical extension that is not processed
abbrev pub is_unread : Entry → Bool
is_unread (entry.Read e) = false
is_unread entry.Unread = true

abbrev pub entry_has_unknown : Entry → Bool
entry_has_unknown (entry.Read e) = e.has_unknown_critical
entry_has_unknown entry.Unread = false

-- 5.2.4: a delta CRL is no complete CRL. 5.2: "If a CRL contains a critical extension that the application cannot process, then the application MUST NOT use that CRL to determine the status of certificates." 5.3: the same of extensions of entries
abbrev pub use_fault : ListFacts → Option ListStep
use_fault l =
    if is_some l.base then Some step.Delta
    else (if l.has_unknown_critical then Some step.UnknownExtension
    else (if list_any is_unread l.entries.items then Some step.UnreadEntry
    else (if list_any entry_has_unknown l.entries.items then Some step.UnknownEntryExtension else None)))

abbrev pub is_directory_of : List Part → PathName → Bool
is_directory_of directory (kept.Directory parts) = same_names parts.items directory
is_directory_of directory (kept.Octets kind octets) = false

-- 6.3.3 (b)(2)(i), for "a distribution point name of the certificate issuer": "verify that one of the names in the IDP matches one of the names in the DP". A name relative to the issuer is longer than the issuer's
abbrev pub has_own_name : Option PointName → List Part → Bool
has_own_name None issuer = true
has_own_name (Some (name.Full names)) issuer = list_any (is_directory_of issuer) names.items
has_own_name (Some (name.Relative part)) issuer = false

-- 6.3.3 (b)(2)(ii): "If the onlyContainsUserCerts boolean is asserted in the IDP CRL extension, verify that the certificate does not include the basic constraints extension with the cA boolean asserted", (iii), (iv)
abbrev pub scope_kind_fault : Scope → Bool → Option ListStep
scope_kind_fault s is_ca =
    if s.has_user_alone && is_ca then Some step.UserCertificates
    else (if s.has_ca_alone && not is_ca then Some step.CaCertificates
    else (if s.has_attribute_alone then Some step.AttributeCertificates else None))

-- 6.3.3 (b)(1): "verify that the CRL issuer matches the certificate issuer", (2)
abbrev pub own_scope_fault : Target → ListFacts → Option ListStep
own_scope_fault t l =
    if not (same_names l.issuer.items t.issuer.items) then Some step.Issuer
    else (if not (has_own_name l.scope.name t.issuer.items) then Some step.PointName
    else scope_kind_fault l.scope t.is_ca)

-- "the current time is after the value of the CRL next update field"
abbrev pub is_after : ℕ → Option Time → Bool
is_after moment None = false
is_after moment (Some time) = nat_lt (seconds_of time) moment

-- 5.1.2.4: "thisUpdate indicates the issue date of this CRL". 6.3.3 (a)(1)
abbrev pub time_fault : ListFacts → ℕ → Option ListStep
time_fault l moment =
    if nat_lt moment (seconds_of l.this_update) then Some step.ThisUpdate
    else (if is_after moment l.next_update then Some step.NextUpdate else None)

-- 5.3.3: "if this extension is not present, the certificate issuer for the entry is the same as that for the preceding entry"
abbrev pub is_of_target : Target → Bool → Option (Vec PathName Global) → Bool
is_of_target t before None = before
is_of_target t before (Some names) = list_any (is_directory_of t.issuer.items) names.items

-- 5.3.1: "the reason code CRL entry extension SHOULD be absent instead of using the unspecified (0) reasonCode value"
abbrev pub reason_or_unspecified : Option CrlReason → CrlReason
reason_or_unspecified None = reason.Unspecified
reason_or_unspecified (Some r) = r

abbrev pub revoked_in : EntryFacts → Revoked
revoked_in e = record { reason = reason_or_unspecified e.reason; date = e.date }

-- 6.3.3 (j): "search for the certificate on the complete CRL": the first entry with the issuer and the serial number of the certificate
abbrev pub entry_of : Target → Bool → List Entry → Option Revoked
entry_of t before [] = None
entry_of t before (entry.Unread ∷ others) = entry_of t before others
entry_of t before (entry.Read e ∷ others) =
    if is_of_target t before e.issuers && pointwise nat_eq e.serial.now t.serial.now then Some (revoked_in e)
    else entry_of t (is_of_target t before e.issuers) others

abbrev pub is_removed : CrlReason → Bool
is_removed reason.RemoveFromCrl = true
is_removed _ = false

-- 6.3.3 (k): "If (cert_status is removeFromCRL), then set cert_status to UNREVOKED"
abbrev pub unless_removed : Option Revoked → Option Revoked
unless_removed None = None
unless_removed (Some r) = if is_removed r.reason then None else Some r

-- 5.3.3: "If this extension is not present on the first entry in an indirect CRL, the certificate issuer defaults to the CRL issuer."
abbrev pub entry_in : Target → ListFacts → Option Revoked
entry_in t l = entry_of t (same_names l.issuer.items t.issuer.items) l.entries.items

abbrev pub revoked_by : Target → ListFacts → Option Revoked
revoked_by t l = unless_removed (entry_in t l)

-- a step that refuses the list, or else what comes after it
abbrev pub unless_refused : {X : Type 0} → Option ListStep → Result X ListStep → Result X ListStep
unless_refused None after = after
unless_refused (Some x) after = Err x

-- 6.3.3 (e): "verify that interim_reasons_mask includes one or more reasons that is not included in reasons_mask"
abbrev pub reasons_fault : ListFacts → Option ListStep
reasons_fault l = if not (has_new (reasons_of l.scope.reasons) (all_reasons false)) then Some step.NoNewReasons else None

-- 6.3.3 (b), (a), (d), (e), (i), (j) and (k) for one complete CRL, the certificate issuer's own
abbrev pub list_answer : Target → ListFacts → ℕ → Result ListStatus ListStep
list_answer t l moment =
    unless_refused (use_fault l)
    (unless_refused (own_scope_fault t l)
    (unless_refused (time_fault l moment)
    (unless_refused (reasons_fault l)
    (Ok (record { reasons = reasons_of l.scope.reasons; revoked = revoked_by t l })))))

-- the answer, as a result
abbrev pub or_refused : Result ListStatus ListStep → Result ListStatus ListError
or_refused (Ok s) = Ok s
or_refused (Err x) = Err (error.Refused x)

-- the answer for the facts that the certificate and the list show
pub record IsListAnswer (c : Certificate) (listed : List Extension) (l : CertificateList) (own : List Extension) (moment : ℕ) (result : Result ListStatus ListError) : Type 0 where
  pub target : Target
  pub is_target : ShowsTarget (certificate.tbs_certificate c) listed target
  pub facts : ListFacts
  pub are_facts : ShowsList (list.tbs_cert_list l) own facts
  pub answers : result ≡ or_refused (list_answer target facts moment)

abbrev pub AnswersList : Certificate → List Extension → CertificateList → List Extension → ℕ → Result ListStatus ListError → Type 0
AnswersList c listed l own moment (Ok s) = IsListAnswer c listed l own moment (Ok s)
AnswersList c listed l own moment (Err error.Memory) = Unit {0}
AnswersList c listed l own moment (Err error.UnreadCertificate) = (t : Target) → ShowsTarget (certificate.tbs_certificate c) listed t → ⊥
AnswersList c listed l own moment (Err error.UnreadList) = (f : ListFacts) → ShowsList (list.tbs_cert_list l) own f → ⊥
AnswersList c listed l own moment (Err (error.Refused x)) = IsListAnswer c listed l own moment (Err (error.Refused x))

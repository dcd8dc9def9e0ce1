-- What lists of revoked certificates say of a certificate (RFC 5280 section 6.3.3). The paths and the signatures of the lists' issuers ((f) to (h)) are the caller's.
use Rattle.std.specs.Prelude.{◌≡◌, ℕ, List, [], ◌∷◌, Bool, false, not, if◌then◌else◌, Option, Some, None, Result, Ok, Err, Vec}
use Rattle.std.specs.declared.alloc.Global.{Global}
use Rattle.der_pkix.specs.Certificate.Certificate as certificate
use Rattle.der_pkix.specs.declared.certificate.certificate.Certificate.{Certificate}
use Rattle.der_pkix.specs.declared.certificate.extension.Extension.{Extension}
use Rattle.der_pkix.specs.declared.crl.certificate_list.CertificateList.{CertificateList}
use Rattle.der_verify.specs.Shown.{ShowEach}
use Rattle.der_path.specs.declared.deltas.Trusted.{Trusted}
use Rattle.der_path.specs.declared.deltas.TrustedList.{TrustedList}
use Rattle.der_path.specs.declared.deltas.TrustedList.TheVariants as trusted
use Rattle.der_path.specs.declared.list_step.ListStep.{ListStep}
use Rattle.der_path.specs.declared.list_step.ListStep.TheVariants as step
use Rattle.der_path.specs.declared.points.Point.{Point}
use Rattle.der_path.specs.declared.reasons.Reasons.{Reasons}
use Rattle.der_path.specs.declared.revocation.ListStatus.{ListStatus}
use Rattle.der_path.specs.declared.revocation.Revoked.{Revoked}
use Rattle.der_path.specs.declared.revocation_facts.ListFacts.{ListFacts}
use Rattle.der_path.specs.declared.revocation_facts.Target.{Target}
use Rattle.der_path.specs.declared.status.Asked.{Asked}
use Rattle.der_path.specs.declared.status.RevocationError.{RevocationError}
use Rattle.der_path.specs.declared.status.RevocationError.TheVariants as error
use Rattle.der_path.specs.declared.status.RevocationStatus.{RevocationStatus}
use Rattle.der_path.specs.declared.status.RevocationStatus.TheVariants as status
use Rattle.der_path.specs.Deltas.{delta_for, ShowsTrustedList}
use Rattle.der_path.specs.Points.{interim_reasons, point_fault, ShowsPoints}
use Rattle.der_path.specs.Reasons.{all_reasons, has_new, is_all, joined_reasons}
use Rattle.der_path.specs.Revocation.{entry_in, time_fault, unless_refused, unless_removed, use_fault}
use Rattle.der_path.specs.RevocationFacts.{ShowsTarget}

-- 6.3.3 (c): "If use-deltas is set"
abbrev pub delta_in : Asked → Trusted → Option Trusted
delta_in a l = if a.use_deltas then delta_for l a.moment a.lists.items else None

-- 6.3.3 (a)(1): the current time is after nextUpdate, and no delta is there
abbrev pub unless_updated : Option Trusted → Option ListStep → Option ListStep
unless_updated (Some delta) (Some step.NextUpdate) = None
unless_updated _ fault = fault

abbrev pub currency_fault : Trusted → Option Trusted → ℕ → Option ListStep
currency_fault l delta moment = unless_updated delta (time_fault l.facts moment)

-- 6.3.3 (e): "verify that interim_reasons_mask includes one or more reasons that is not included in reasons_mask"
abbrev pub new_reasons_fault : Point → ListFacts → Reasons → Option ListStep
new_reasons_fault p l known = if not (has_new (interim_reasons p l) known) then Some step.NoNewReasons else None

-- 6.3.3 (i): "If use-deltas is set, then search for the certificate on the delta CRL."
abbrev pub newest_entry : Target → Option Trusted → Option Revoked
newest_entry t None = None
newest_entry t (Some delta) = entry_in t delta.facts

-- 6.3.3 (j): "If (cert_status is UNREVOKED), then search for the certificate on the complete CRL"
abbrev pub or_entry : Option Revoked → Option Revoked → Option Revoked
or_entry None complete = complete
or_entry (Some r) complete = Some r

-- 6.3.3 (i), (j), (k)
abbrev pub revoked_in_lists : Target → Trusted → Option Trusted → Option Revoked
revoked_in_lists t l delta = unless_removed (or_entry (newest_entry t delta) (entry_in t l.facts))

-- 5.2.4, 5.2, 5.3, 6.3.3 (b), (a), (d), (e), (i) to (k) for one complete CRL
abbrev pub answer_with : Asked → Point → Reasons → Trusted → Option Trusted → Result ListStatus ListStep
answer_with a p known l delta =
    unless_refused (use_fault l.facts)
    (unless_refused (point_fault a.target p l.facts)
    (unless_refused (currency_fault l delta a.moment)
    (unless_refused (new_reasons_fault p l.facts known)
    (Ok (record { reasons = interim_reasons p l.facts; revoked = revoked_in_lists a.target l delta })))))

abbrev pub point_answer : Asked → Point → Reasons → Trusted → Result ListStatus ListStep
point_answer a p known l = answer_with a p known l (delta_in a l)

-- 6.3.3 (l): "Set the reasons_mask state variable to the union of its previous value and the value of the interim_reasons_mask state variable."
abbrev pub with_reasons : Reasons → RevocationStatus
with_reasons known = if is_all known then status.Unrevoked else status.Undetermined known

abbrev pub or_revoked : Option Revoked → RevocationStatus → RevocationStatus
or_revoked None after = after
or_revoked (Some r) after = status.Revoked r

abbrev pub after_list : Reasons → ListStatus → RevocationStatus
after_list known s = or_revoked s.revoked (with_reasons (joined_reasons known s.reasons))

-- a list that is refused says nothing
abbrev pub after_answer : Reasons → Result ListStatus ListStep → RevocationStatus
after_answer known (Ok s) = after_list known s
after_answer known (Err x) = status.Undetermined known

abbrev pub status_by : Asked → Point → Reasons → TrustedList → RevocationStatus
status_by a p known trusted.Unread = status.Undetermined known
status_by a p known (trusted.Read l) = after_answer known (point_answer a p known l)

-- "while ((reasons_mask is not all-reasons) and (cert_status is UNREVOKED))"
abbrev pub go_on : RevocationStatus → (Reasons → RevocationStatus) → RevocationStatus
go_on (status.Undetermined known) next = next known
go_on status.Unrevoked next = status.Unrevoked
go_on (status.Revoked r) next = status.Revoked r

-- each list in turn, for one distribution point
abbrev pub status_at : Asked → Point → Reasons → List TrustedList → RevocationStatus
status_at a p known [] = status.Undetermined known
status_at a p known (l ∷ others) = go_on (status_by a p known l) (λ more. status_at a p more others)

-- each distribution point in turn; "If the revocation status remains undetermined, then return the cert_status UNDETERMINED"
abbrev pub status_of : Asked → Reasons → List Point → RevocationStatus
status_of a known [] = status.Undetermined known
status_of a known (p ∷ others) = go_on (status_at a p known a.lists.items) (λ more. status_of a more others)

-- the status for the facts that the certificate and the lists show
pub record IsStatus (c : Certificate) (listed : List Extension) (lists : List CertificateList) (moment : ℕ) (use_deltas : Bool) (s : RevocationStatus) : Type 0 where
  pub asked : Asked
  pub is_target : ShowsTarget (certificate.tbs_certificate c) listed asked.target
  pub are_lists : ShowEach ShowsTrustedList lists asked.lists.items
  pub moment_is : asked.moment ≡ moment
  pub deltas_are : asked.use_deltas ≡ use_deltas
  pub points : List Point
  pub are_points : ShowsPoints (certificate.tbs_certificate c) listed points
  pub status_is : s ≡ status_of asked (all_reasons false) points

abbrev pub AnswersStatus : Certificate → List Extension → List CertificateList → ℕ → Bool → Result RevocationStatus RevocationError → Type 0
AnswersStatus c listed lists moment use_deltas (Ok s) = IsStatus c listed lists moment use_deltas s
AnswersStatus c listed lists moment use_deltas (Err error.Memory) = Unit {0}
AnswersStatus c listed lists moment use_deltas (Err error.UnreadCertificate) = (t : Target) (points : Vec Point Global) → ShowsTarget (certificate.tbs_certificate c) listed t → ShowsPoints (certificate.tbs_certificate c) listed points.items → ⊥

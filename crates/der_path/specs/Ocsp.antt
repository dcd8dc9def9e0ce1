-- What an answer of OCSP says of a certificate (RFC 6960 sections 3.2 and 4.2.2.2). Signatures (3.2 (2)) and hashes of keys are the caller's.
use Rattle.std.specs.Prelude.{◌≡◌, ℕ, ◌==◌, ◌+◌, nat_eq, nat_lt, List, [], ◌∷◌, ◌++◌, length, Bool, true, false, not, ◌&&◌, ◌||◌, if◌then◌else◌, Option, Some, None, option_map, Result, Ok, Err, Vec}
use Rattle.std.specs.declared.alloc.Global.{Global}
use Rattle.std.specs.Cmp.Lexicographic.{pointwise}
use Rattle.std.specs.List.{list_any}
use Rattle.der_time.specs.UnixTime.{unix_seconds}
use Rattle.der_time.specs.declared.generalized_time.GeneralizedTime.{GeneralizedTime}
use Rattle.der_pkix.specs.declared.name.rdn_sequence.RdnSequence.{RdnSequence}
use Rattle.der_ocsp.specs.declared.ocsp.basic_ocsp_response.BasicOcspResponse.{BasicOcspResponse}
use Rattle.der_ocsp.specs.declared.ocsp.cert_status.CertStatus.{CertStatus}
use Rattle.der_verify.specs.Time.{is_valid_at}
use Rattle.der_path.specs.declared.names.Part.{Part}
use Rattle.der_path.specs.declared.ocsp_facts.AnswerFacts.{AnswerFacts}
use Rattle.der_path.specs.declared.ocsp_facts.Delegate.{Delegate}
use Rattle.der_path.specs.declared.ocsp_facts.Delegate.TheVariants as delegate
use Rattle.der_path.specs.declared.ocsp_facts.DelegateFacts.{DelegateFacts}
use Rattle.der_path.specs.declared.ocsp_facts.Purpose.{Purpose}
use Rattle.der_path.specs.declared.ocsp_facts.ResponderFacts.{ResponderFacts}
use Rattle.der_path.specs.declared.ocsp_facts.ResponderFacts.TheVariants as by
use Rattle.der_path.specs.declared.ocsp_facts.Single.{Single}
use Rattle.der_path.specs.declared.ocsp.CertificateHashes.{CertificateHashes}
use Rattle.der_path.specs.declared.ocsp.OcspError.{OcspError}
use Rattle.der_path.specs.declared.ocsp.OcspError.TheVariants as error
use Rattle.der_path.specs.declared.ocsp.OcspStatus.{OcspStatus}
use Rattle.der_path.specs.declared.ocsp.Responder.{Responder}
use Rattle.der_path.specs.declared.ocsp.Responder.TheVariants as responder
use Rattle.der_path.specs.declared.ocsp_step.OcspStep.{OcspStep}
use Rattle.der_path.specs.declared.ocsp_step.OcspStep.TheVariants as step
use Rattle.der_path.specs.Facts.{ShowsParts}
use Rattle.der_path.specs.OcspFacts.{ShowsAnswer}
use Rattle.der_path.specs.Subtrees.{same_names}

-- what a caller sees of an answer
pub record SeenStatus : Type 0 where
  pub status : CertStatus
  pub this_update : GeneralizedTime
  pub next_update : Option GeneralizedTime
  pub responders : List Responder
  pub key_hash : Option (List ℕ)

abbrev pub seen_status : OcspStatus → SeenStatus
seen_status s = record {
  status = s.status;
  this_update = s.this_update;
  next_update = s.next_update;
  responders = s.responders.items;
  key_hash = option_map (λ octets. octets.now) s.key_hash;
}

-- 3.2 (1): "The certificate identified in a received response corresponds to the certificate that was identified in the corresponding request"
abbrev pub is_of : CertificateHashes → Single → Bool
is_of c s = pointwise nat_eq s.algorithm.now c.algorithm.now && (pointwise nat_eq s.name_hash.now c.name_hash.now && (pointwise nat_eq s.key_hash.now c.key_hash.now && pointwise nat_eq s.serial.now c.serial.now))

abbrev pub single_of : CertificateHashes → List Single → Option Single
single_of c [] = None
single_of c (s ∷ others) = if is_of c s then Some s else single_of c others

-- 4.4: "Unrecognized extensions MUST be ignored (unless they have the critical flag set and are not understood)." None is understood here
abbrev pub critical_fault : Bool → Single → Option OcspStep
critical_fault has_critical s = if has_critical || s.has_critical then Some step.CriticalExtension else None

-- 4.2.2.1: "Responses whose nextUpdate value is earlier than the local system time value SHOULD be considered unreliable."
abbrev pub is_after : ℕ → Option GeneralizedTime → Bool
is_after moment None = false
is_after moment (Some time) = nat_lt (unix_seconds time.date_time) moment

-- 3.2 (5) with 4.2.2.1: "Responses whose thisUpdate time is later than the local system time SHOULD be considered unreliable." 3.2 (6)
abbrev pub ocsp_time_fault : Single → ℕ → Option OcspStep
ocsp_time_fault s moment =
    if nat_lt moment (unix_seconds s.this_update.date_time) then Some step.ThisUpdate
    else (if is_after moment s.next_update then Some step.NextUpdate else None)

-- 4.2.1: a responder is named by its name, or by the hash of its key
abbrev pub is_named : ResponderFacts → List Part → Bool
is_named (by.Name parts) name = same_names parts.items name
is_named (by.Key octets) name = true

abbrev pub key_hash_of : ResponderFacts → Option (List ℕ)
key_hash_of (by.Name parts) = None
key_hash_of (by.Key octets) = Some octets.now

-- id-kp-OCSPSigning, 1.3.6.1.5.5.7.3.9
abbrev pub is_ocsp_signing : Purpose → Bool
is_ocsp_signing p = pointwise nat_eq p.octets.now (43 ∷ 6 ∷ 1 ∷ 5 ∷ 5 ∷ 7 ∷ 3 ∷ 9 ∷ [])

abbrev pub signs_answers : Option (Vec Purpose Global) → Bool
signs_answers None = false
signs_answers (Some purposes) = list_any is_ocsp_signing purposes.items

-- 4.2.2.2: "OCSP signing delegation SHALL be designated by the inclusion of id-kp-OCSPSigning in an extended key usage certificate extension included in the OCSP response signer's certificate. This certificate MUST be issued directly by the CA that is identified in the request."
abbrev pub may_answer : List Part → ℕ → DelegateFacts → Bool
may_answer issuer moment d = same_names d.issuer.items issuer && (is_valid_at d.validity moment && (signs_answers d.purposes && (d.signs && not d.has_unknown_critical)))

abbrev pub designated : List Part → ResponderFacts → ℕ → Delegate → Bool
designated issuer r moment (delegate.Read d) = is_named r d.subject.items && may_answer issuer moment d
designated issuer r moment delegate.Unread = false

-- "a certificate's issuer MUST do one of the following: sign the OCSP responses itself, or explicitly designate this authority to another entity"
abbrev pub issuer_responders : List Part → ResponderFacts → List Responder
issuer_responders issuer r = if is_named r issuer then responder.Issuer ∷ [] else []

abbrev pub with_responder : Bool → ℕ → List Responder → List Responder
with_responder is_one at known = if is_one then known ++ responder.Certificate at ∷ [] else known

-- the certificates of an answer from an index on, after those who may sign it before them
abbrev pub responders_from : List Part → ResponderFacts → ℕ → List Responder → ℕ → List Delegate → List Responder
responders_from issuer r moment known at [] = known
responders_from issuer r moment known at (d ∷ others) = responders_from issuer r moment (with_responder (designated issuer r moment d) at known) (at + 1) others

abbrev pub responders : List Part → AnswerFacts → ℕ → List Responder
responders issuer f moment = responders_from issuer f.responder moment (issuer_responders issuer f.responder) 0 f.delegates.items

-- a step that refuses the answer, or else what comes after it
abbrev pub unless_refused : {X : Type 0} → Option OcspStep → Result X OcspStep → Result X OcspStep
unless_refused None after = after
unless_refused (Some x) after = Err x

-- 3.2 (4): "The signer is currently authorized to provide a response for the certificate in question"
abbrev pub responder_fault : List Responder → Option OcspStep
responder_fault found = if length found == 0 then Some step.NoResponder else None

abbrev pub answer_of_single : AnswerFacts → ℕ → List Responder → Option Single → Result SeenStatus OcspStep
answer_of_single f moment found None = Err step.NotAnswered
answer_of_single f moment found (Some s) =
    unless_refused (critical_fault f.has_critical s)
    (unless_refused (ocsp_time_fault s moment)
    (unless_refused (responder_fault found)
    (Ok (record { status = s.status; this_update = s.this_update; next_update = s.next_update; responders = found; key_hash = key_hash_of f.responder }))))

-- 3.2 (1), 4.4, 3.2 (5), (6), (4)
abbrev pub ocsp_answer : List Part → AnswerFacts → CertificateHashes → ℕ → Result SeenStatus OcspStep
ocsp_answer issuer f c moment = answer_of_single f moment (responders issuer f moment) (single_of c f.singles.items)

-- the result of the steps, or memory ran out
abbrev pub Decides : Result SeenStatus OcspStep → Result OcspStatus OcspError → Type 0
Decides wanted (Ok s) = wanted ≡ Ok (seen_status s)
Decides wanted (Err error.Memory) = Unit {0}
Decides wanted (Err (error.Refused x)) = wanted ≡ Err x

-- the answer for the facts that the octets show
pub record IsOcspAnswer (v : BasicOcspResponse) (n : RdnSequence) (c : CertificateHashes) (moment : ℕ) (result : Result OcspStatus OcspError) : Type 0 where
  pub issuer : List Part
  pub is_issuer : ShowsParts n issuer
  pub facts : AnswerFacts
  pub are_facts : ShowsAnswer v facts
  pub answers : Decides (ocsp_answer issuer facts c moment) result

abbrev pub AnswersOcsp : BasicOcspResponse → RdnSequence → CertificateHashes → ℕ → Result OcspStatus OcspError → Type 0
AnswersOcsp v n c moment (Ok s) = IsOcspAnswer v n c moment (Ok s)
AnswersOcsp v n c moment (Err error.Memory) = Unit {0}
AnswersOcsp v n c moment (Err (error.Refused x)) = IsOcspAnswer v n c moment (Err (error.Refused x))

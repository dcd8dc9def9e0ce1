-- What an answer of OCSP at a byte range says of a certificate (RFC 6960 3.2, 4.2.2.2), in memory of the caller.
use Rattle.std.specs.Prelude.{◌≡◌, ◌⊎◌, ℕ, ◌<◌, List, [], ◌++◌, drop, length, map, Option, Some, None, is_some, Result, Ok, Err}
use Rattle.der_path.specs.declared.ocsp.OcspError.{OcspError}
use Rattle.der_path.specs.declared.ocsp.OcspStatus.{OcspStatus}
use Rattle.der_path.specs.declared.ocsp.Responder.{Responder}
use Rattle.der_path.specs.declared.ocsp.Responder.TheVariants as responder
use Rattle.der_path.specs.Ocsp.{seen_status, AnswersOcsp}
use Rattle.der_c.specs.declared.fault.Fault.{Fault}
use Rattle.der_c.specs.declared.revocation.answer.FoundAnswer.{FoundAnswer}
use Rattle.der_c.specs.declared.revocation.answer.OcspStatusAt.{OcspStatusAt}
use Rattle.der_c.specs.declared.revocation.inputs.OcspInputs.{OcspInputs}
use Rattle.der_c.specs.declared.revocation.inputs.OcspParts.{OcspParts}
use Rattle.der_c.specs.declared.revocation.refusal.StatusRefusal.{StatusRefusal}
use Rattle.der_c.specs.declared.revocation.responders.ResponderAt.{ResponderAt}
use Rattle.der_c.specs.AnswerInputs.{HasOcspInputs, RefusesOcspInputs}
use Rattle.der_c.specs.Answers.{NoFault, fault_of_call}
use Rattle.der_c.specs.Bits.{bit}
use Rattle.der_c.specs.Status.{number_of_status, revoked_at}
use Rattle.der_c.specs.StatusNumbers.{reason_of_status}
use Rattle.der_c.specs.StatusRefusals.{no_status, refusal_of_answer}
use Rattle.der_c.specs.Times.{seconds_if_given, seconds_of_general}

-- who may have signed an answer, as it is written
abbrev pub responder_at : Responder → ResponderAt
responder_at responder.Issuer = record { index = 0; is_issuer = 1; reserved = 0 }
responder_at (responder.Certificate at) = record { index = at; is_issuer = 0; reserved = 0 }

-- no octets if there are none
abbrev pub octets_if_given : Option (List ℕ) → List ℕ
octets_if_given None = []
octets_if_given (Some octets) = octets

-- the hash of the responder's key (RFC 6960 4.2.1), or no octets if the answer names its responder otherwise
abbrev pub key_hash_octets : OcspStatus → List ℕ
key_hash_octets s = octets_if_given (seen_status s).key_hash

-- what an answer says, as it is written
abbrev pub ocsp_status_at : OcspStatus → OcspStatusAt
ocsp_status_at s = record {
  this_update = seconds_of_general s.this_update;
  next_update = seconds_if_given s.next_update;
  revocation_time = revoked_at s.status;
  responder_count = length s.responders.items;
  key_hash_len = length (key_hash_octets s);
  status = number_of_status s.status;
  reason = reason_of_status s.status;
  has_key_hash = bit (is_some s.key_hash);
  step = 0;
}

-- an answer says nothing: all but the step is 0
abbrev pub no_ocsp_status : ℕ → OcspStatusAt
no_ocsp_status step = record { this_update = 0; next_update = 0; revocation_time = 0; responder_count = 0; key_hash_len = 0; status = 0; reason = 0; has_key_hash = 0; step = step }

-- what RFC 6960 says of the answer that the grammar reads at a byte range
pub record TellsAnswer (octets : List ℕ) (at : OcspInputs) (result : Result OcspStatus OcspError) : Type 0 where
  pub parts : OcspParts
  pub are_parts : HasOcspInputs octets at parts
  pub answers : AnswersOcsp parts.answer parts.issuer parts.hashes at.moment result

-- what the answer says, and who may have signed it
pub record HasAnswer (octets : List ℕ) (at : OcspInputs) (found : FoundAnswer) : Type 0 where
  pub tells : TellsAnswer octets at (Ok found.status)
  pub responders_are : found.responders.items ≡ map responder_at found.status.responders.items

-- an input is refused
pub record HasNoOcspInputs (octets : List ℕ) (at : OcspInputs) (refusal : StatusRefusal) : Type 0 where
  pub fault : Fault
  pub refuses : RefusesOcspInputs octets at fault
  pub refusal_is : refusal ≡ no_status fault

-- RFC 6960 gives an error
pub record IsRefusedAnswer (octets : List ℕ) (at : OcspInputs) (refusal : StatusRefusal) : Type 0 where
  pub error : OcspError
  pub tells : TellsAnswer octets at (Err error)
  pub refusal_is : refusal ≡ refusal_of_answer error

-- why an answer says nothing; 1: memory ran out
abbrev pub RefusesAnswer : List ℕ → OcspInputs → StatusRefusal → Type 0
RefusesAnswer octets at refusal = HasNoOcspInputs octets at refusal ⊎ (IsRefusedAnswer octets at refusal ⊎ (refusal ≡ no_status (fault_of_call 1)))

-- 0: both are at the front of the buffers, and what is behind them is unchanged
pub record IsWrittenAnswer (found : FoundAnswer) (old new : List ResponderAt) (old_hash hash : List ℕ) (old_fault fault : Fault) (answer : ℕ) : Type 0 where
  pub responders : new ≡ found.responders.items ++ drop (length found.responders.items) old
  pub hash_is : hash ≡ key_hash_octets found.status ++ drop (length (key_hash_octets found.status)) old_hash
  pub no_fault : NoFault old_fault fault answer

-- 103: one of the buffers is too short, and both are unchanged
pub record HasNoRoomForAnswer (found : FoundAnswer) (old new : List ResponderAt) (old_hash hash : List ℕ) (fault : Fault) (answer : ℕ) : Type 0 where
  pub short : (length old < length found.responders.items) ⊎ (length old_hash < length (key_hash_octets found.status))
  pub unchanged : (new ≡ old) × (hash ≡ old_hash)
  pub number : answer ≡ 103
  pub written : fault ≡ fault_of_call 103

-- the results of writing what an answer says
abbrev pub WritesAnswer : FoundAnswer → List ResponderAt → List ResponderAt → List ℕ → List ℕ → OcspStatusAt → Fault → Fault → ℕ → Type 0
WritesAnswer found old new old_hash hash out old_fault fault answer =
    (out ≡ ocsp_status_at found.status) × (IsWrittenAnswer found old new old_hash hash old_fault fault answer ⊎ HasNoRoomForAnswer found old new old_hash hash fault answer)

-- the results of telling why an answer says nothing
pub record WritesNoAnswer (refusal : StatusRefusal) (out : OcspStatusAt) (fault : Fault) (answer : ℕ) : Type 0 where
  pub out_is : out ≡ no_ocsp_status refusal.step
  pub written : fault ≡ refusal.fault
  pub number : answer ≡ refusal.fault.number

-- the answer says a status, and it is written
pub record IsToldByAnswer (octets : List ℕ) (at : OcspInputs) (old new : List ResponderAt) (old_hash hash : List ℕ) (out : OcspStatusAt) (old_fault fault : Fault) (answer : ℕ) : Type 0 where
  pub found : FoundAnswer
  pub has : HasAnswer octets at found
  pub written : WritesAnswer found old new old_hash hash out old_fault fault answer

-- it says nothing, and the buffers are unchanged
pub record IsNotToldByAnswer (octets : List ℕ) (at : OcspInputs) (old new : List ResponderAt) (old_hash hash : List ℕ) (out : OcspStatusAt) (fault : Fault) (answer : ℕ) : Type 0 where
  pub refusal : StatusRefusal
  pub refuses : RefusesAnswer octets at refusal
  pub written : WritesNoAnswer refusal out fault answer
  pub unchanged : (new ≡ old) × (hash ≡ old_hash)

abbrev pub AnswersOcspAt : List ℕ → OcspInputs → List ResponderAt → List ResponderAt → List ℕ → List ℕ → OcspStatusAt → Fault → Fault → ℕ → Type 0
AnswersOcspAt octets at old new old_hash hash out old_fault fault answer =
    IsToldByAnswer octets at old new old_hash hash out old_fault fault answer
    ⊎ IsNotToldByAnswer octets at old new old_hash hash out fault answer

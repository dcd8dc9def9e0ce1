-- The state after a refusal, from the state in which the error was found.
use Rattle.std.proofs.Common.{◌≡◌, ℕ, ◌≤◌, List, Bool, true, false, Result, Err, ap, sym, ◌∙◌, arith, refl}
use Rattle.der_tlv.specs.declared.error.ErrorKind.{ErrorKind}
use Rattle.der_tlv.specs.declared.error.ErrorKind.TheVariants.{Failed}
use Rattle.der_tlv.specs.ReaderState.{ReaderState, rest, unless_failed, after_read, after_fault, after_nest, can_read, read_fault}
use Rattle.der_tlv.specs.Reading.{Refused, Passed, Refuses, OctetsRefused, HeadFault}
use Rattle.der_tlv.proofs.ReaderStates.{room_from_can_read}

-- a reader that has read further, or shows fewer octets
pub record Went (old mid : ReaderState) : Type 0 where
  pub input : mid.input ≡ old.input
  pub rules : mid.rules ≡ old.rules
  pub onward : old.position ≤ mid.position
  pub narrower : mid.end ≤ old.end

pub went_nowhere : (s : ReaderState) → Went s s
went_nowhere s = record { input = refl; rules = refl; onward = omega arith; narrower = omega arith }

pub went_on : {old mid : ReaderState} (n : ℕ) → mid ≡ after_read old n → Went old mid
went_on n e =
    let p = ap (λ (s : ReaderState). s.position) e in
    let q = ap (λ (s : ReaderState). s.end) e in
    record { input = ap (λ (s : ReaderState). s.input) e; rules = ap (λ (s : ReaderState). s.rules) e; onward = omega arith; narrower = omega arith }

pub went_inside : {old mid : ReaderState} (n : ℕ) → can_read old n ≡ true → mid ≡ after_nest old n → Went old mid
went_inside {old} n can e =
    let p = ap (λ (s : ReaderState). s.position) e in
    let q = ap (λ (s : ReaderState). s.end) e in
    let h = room_from_can_read old n can in
    record { input = ap (λ (s : ReaderState). s.input) e; rules = ap (λ (s : ReaderState). s.rules) e; onward = omega arith; narrower = omega arith }

pub went_past : {old mid : ReaderState} → Passed old mid → Went old mid
went_past passed =
    let e = passed.end in let p = passed.onward in
    record { input = passed.input; rules = passed.rules; onward = omega arith; narrower = omega arith }

pub went_further : {old mid new : ReaderState} → Went old mid → Went mid new → Went old new
went_further a b =
    let p = a.onward in let q = b.onward in let r = a.narrower in let t = b.narrower in
    record { input = b.input ∙ a.input; rules = b.rules ∙ a.rules; onward = omega arith; narrower = omega arith }

-- no reader has failed and not failed
pub ready_not_failed : {A : Type 0} {b : Bool} → b ≡ false → b ≡ true → A
ready_not_failed e h = let k : true ≡ false = sym h ∙ e in absurd (cc)

-- an error that is found at the reader's position
pub refused_here : {old new : ReaderState} {kind : ErrorKind} → new ≡ after_fault old → (old.failed ≡ true → kind ≡ Failed) → Refused old new kind
refused_here {old} e late =
    let p = ap (λ (s : ReaderState). s.position) e in
    let q = ap (λ (s : ReaderState). s.end) e in
    record {
      failed = ap (λ (s : ReaderState). s.failed) e;
      input = ap (λ (s : ReaderState). s.input) e;
      rules = ap (λ (s : ReaderState). s.rules) e;
      onward = omega arith;
      narrower = omega arith;
      again = λ h. (late h, e ∙ ap (λ b. record old { failed = b }) (sym h));
    }

-- a refusal after the reader has read further
pub refused_since : {old mid new : ReaderState} {kind : ErrorKind} → old.failed ≡ false → Went old mid → Refused mid new kind → Refused old new kind
refused_since ready went refused =
    let p = went.onward in let q = went.narrower in let r = refused.onward in let t = refused.narrower in
    record {
      failed = refused.failed;
      input = refused.input ∙ went.input;
      rules = refused.rules ∙ went.rules;
      onward = omega arith;
      narrower = omega arith;
      again = λ h. ready_not_failed ready h;
    }

pub passed_read : {old new : ReaderState} (n : ℕ) → old.failed ≡ false → new ≡ after_read old n → Passed old new
passed_read n ready e =
    let p = ap (λ (s : ReaderState). s.position) e in
    record {
      ready = ready;
      still = ap (λ (s : ReaderState). s.failed) e ∙ ready;
      input = ap (λ (s : ReaderState). s.input) e;
      rules = ap (λ (s : ReaderState). s.rules) e;
      end = ap (λ (s : ReaderState). s.end) e;
      onward = omega arith;
    }

-- an error that is found after a successful read
pub refused_past : {old mid new : ReaderState} {kind : ErrorKind} → Passed old mid → new ≡ after_fault mid → Refused old new kind
refused_past passed e = refused_since passed.ready (went_past passed) (refused_here e (λ h. ready_not_failed passed.still h))

-- an error that is found at the position of a reader that has read further
pub refused_at : {old mid new : ReaderState} {kind : ErrorKind} → old.failed ≡ false → Went old mid → mid.failed ≡ false → new ≡ after_fault mid → Refused old new kind
refused_at ready went still e = refused_since ready went (refused_here e (λ h. ready_not_failed still h))

-- the error of a reader that had failed
pub failed_fault : (s : ReaderState) (n : ℕ) → s.failed ≡ true → read_fault s n ≡ Failed
failed_fault s n e = rw e refl

-- a refusal to read one octet, and to read octets
pub refused_octet : {old new : ReaderState} {kind : ErrorKind} → Refuses old new kind (read_fault old 1) → Refused old new kind
refused_octet {old} refused = refused_here refused.after (λ e. refused.fault_is ∙ failed_fault old 1 e)

pub refused_octets : {old new : ReaderState} {n : ℕ} {kind : ErrorKind} → OctetsRefused old new n kind → Refused old new kind
refused_octets {old} {n = n} refused = refused_here refused.after (λ e. refused.fault_is ∙ failed_fault old n e)

-- a refusal to read the first octet is a refusal of the value, if the value needs an octet
pub refused_at_first : {A : Type 0} (parse : ℕ → List ℕ → Result (ℕ × A) ErrorKind) (old new : ReaderState) (kind : ErrorKind) → Refuses old new kind (read_fault old 1) → (old.failed ≡ false → parse old.position (rest old) ≡ Err kind) → HeadFault parse old new kind
refused_at_first parse old new kind refused fault = record { fault_is = at old.failed refl; reader = refused_octet refused }
  where
    at : (b : Bool) → old.failed ≡ b → unless_failed parse old ≡ Err kind
    at true e = rw e (ap Err (sym (refused.fault_is ∙ failed_fault old 1 e)))
    at false e = rw e (fault e)

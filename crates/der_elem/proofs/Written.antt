-- Octets that are written part by part.
use Rattle.std.proofs.Common.{◌≡◌, ℕ, ◌+◌, ◌≤◌, List, [], ◌++◌, length, take, Bool, true, false, inl, inr, IsTrue, Result, Ok, Err, refl, sym, ap, ◌∙◌, arith, subst, append_assoc, min}
use Rattle.std.proofs.lemmas.List.{length-append, take-append-le, take_min, append-nil}
use Rattle.std.proofs.Math.Seq.{take-append-add}
use Rattle.der_tlv.specs.declared.error.ErrorKind.{ErrorKind}
use Rattle.der_tlv.specs.declared.error.Error.{Error}
use Rattle.der_tlv.specs.Writing.{WriterState, Wrote, WriterRefused, Writes}
use Rattle.der_elem.specs.Encoding.{Stops, Encodes}

-- octets that are written in one call
pub encoded_whole : (octets : List ℕ) (old new : WriterState) (r : Result (Unit {0}) Error) → Writes octets old new r → Encodes octets false old new r
encoded_whole octets old new (Ok v) w = w
encoded_whole octets old new (Err e) w = inl w

pub wrote_nothing : (s : WriterState) → Wrote [] s s
wrote_nothing s = record { taken = sym (append-nil s.taken); start = refl; failed = refl; room = omega arith; may_refuse = refl; back = refl }

-- one part, and then another
pub wrote_both : {a b : List ℕ} {start mid new : WriterState} → Wrote a start mid → Wrote b mid new → Wrote (a ++ b) start new
wrote_both {a} {b} {start} w v = record {
  taken = v.taken ∙ ap (λ c. c ++ b) w.taken ∙ append_assoc start.taken a b;
  start = v.start ∙ w.start;
  failed = v.failed ∙ w.failed;
  room = let r = w.room in let s = v.room in omega (arith, length-append a b);
  may_refuse = v.may_refuse ∙ w.may_refuse;
  back = v.back ∙ w.back;
}

pub stops_in : (a b : List ℕ) (memory memory' : Bool) {kind : ErrorKind} → length a ≤ length b → (memory ≡ true → memory' ≡ true) → Stops a memory kind → Stops b memory' kind
stops_in a b memory memory' le m s = elim s [ inl o ↦ inl (o.0, omega (arith, o.1)) | inr h ↦ inr (h.0, m h.1) ]

-- a prefix of a part, after the parts before it, is a prefix of the whole
part : (n : ℕ) (done x more : List ℕ) → take (length done + min n (length x)) (done ++ (x ++ more)) ≡ done ++ take n x
part n done x more =
    take-append-add done (x ++ more) (min n (length x)) ∙ ap (λ c. done ++ c) (take-append-le (min n (length x)) x more (omega arith) ∙ take_min n x)

module _ {done : List ℕ} {start mid : WriterState} (written : Wrote done start mid) (all x more : List ℕ) (whole : all ≡ done ++ (x ++ more)) where
  beginning_within : (n : ℕ) (new : WriterState) → new.taken ≡ mid.taken ++ take n x → new.taken ≡ start.taken ++ take (length done + min n (length x)) all
  beginning_within n new f =
      f ∙ ap (λ c. c ++ take n x) written.taken ∙ append_assoc start.taken done (take n x) ∙ ap (λ c. start.taken ++ c) (sym (part n done x more) ∙ ap (take (length done + min n (length x))) (sym whole))

  lengths : length all ≡ length done + (length x + length more)
  lengths = ap length whole ∙ length-append done (x ++ more) ∙ ap (λ n. length done + n) (length-append x more)

  pub refused_within : {new : WriterState} {kind : ErrorKind} → WriterRefused x mid new kind → WriterRefused all start new kind
  refused_within {new} {kind} r = record {
    count = length done + min r.count (length x);
    beginning = beginning_within r.count new r.beginning;
    start = r.start ∙ written.start;
    failed = r.failed;
    short = λ e. let s = r.short (written.failed ∙ e) in let w = written.room in omega (arith, lengths);
    permitted = subst (λ (may : ErrorKind → Bool). IsTrue (may kind)) written.may_refuse r.permitted;
    back = r.back ∙ written.back;
  }

  -- an error of a part is an error of the whole
  pub fault_within : (A B : Type 0) (part_re_reads re_reads : Bool) → (part_re_reads ≡ true → re_reads ≡ true) → (new : WriterState) (e : Error) → Encodes {A = A} x part_re_reads mid new (Err e) → Encodes {A = B} all re_reads start new (Err e)
  fault_within A B part_re_reads re_reads m new e fault = elim fault [
    | inl r ↦ inl (refused_within r)
    | inr s ↦ inr (record {
      count = length done + min s.count (length x);
      beginning = beginning_within s.count new s.beginning;
      start = s.start ∙ written.start;
      failed = s.failed ∙ written.failed;
      back = s.back ∙ written.back;
      reason = stops_in x all part_re_reads re_reads (omega (arith, lengths)) m s.reason;
    })
  ]

-- the last part
pub last_part : {A : Type 0} {done : List ℕ} {start mid : WriterState} → Wrote done start mid → (all x : List ℕ) → all ≡ done ++ x → (part_re_reads re_reads : Bool) → (part_re_reads ≡ true → re_reads ≡ true) → (new : WriterState) (r : Result A Error) → Encodes x part_re_reads mid new r → Encodes all re_reads start new r
last_part {start = start} written all x whole part_re_reads re_reads m new (Ok v) told = subst (λ c. Wrote c start new) (sym whole) (wrote_both written told)
last_part {done = done} written all x whole part_re_reads re_reads m new (Err e) told =
    fault_within written all x [] (whole ∙ ap (λ c. done ++ c) (sym (append-nil x))) (Unit {0}) (Unit {0}) part_re_reads re_reads m new e told

-- Items that are read again and written, one after another.
use Rattle.std.proofs.Common.{◌≡◌, ℕ, ◌+◌, List, [], ◌∷◌, ◌++◌, length, take, true, Err, sym, ap, ◌∙◌, arith, subst, append_assoc, inr}
use Rattle.std.specs.List.{concat}
use Rattle.std.proofs.lemmas.List.{length-append, append-nil}
use Rattle.std.proofs.Math.Seq.{take-append_seam}
use Rattle.der_tlv.specs.declared.error.ErrorKind.{ErrorKind}
use Rattle.der_tlv.specs.declared.error.ErrorKind.TheVariants.{Memory}
use Rattle.der_tlv.specs.declared.error.Error.{Error}
use Rattle.der_tlv.specs.Writing.{WriterState, Wrote}
use Rattle.der_elem.specs.declared.form.Form as form
use Rattle.der_elem.specs.Encoding.{Encodes, Stops}
use Rattle.der_elem.proofs.Written.{wrote_nothing, wrote_both, stops_in, fault_within}

-- the encodings before these were written
pub record WrittenSoFar (all left : List (List ℕ)) (start now : WriterState) : Type 0 where
  pub done : List ℕ
  pub wrote : Wrote done start now
  pub parts : concat all ≡ done ++ concat left

pub none_written : (all left : List (List ℕ)) (s : WriterState) → left ≡ all → WrittenSoFar all left s s
none_written all left s e = record { done = []; wrote = wrote_nothing s; parts = ap concat (sym e) }

pub one_more_written : (all left : List (List ℕ)) (e : List ℕ) {rest : List (List ℕ)} {start now new : WriterState} → left ≡ e ∷ rest → WrittenSoFar all left start now → Wrote e now new → WrittenSoFar all rest start new
one_more_written all left e {rest} is s w = record {
  done = s.done ++ e;
  wrote = wrote_both s.wrote w;
  parts = s.parts ∙ ap (λ es. s.done ++ concat es) is ∙ sym (append_assoc s.done e (concat rest));
}

pub all_written : {all left : List (List ℕ)} {start now : WriterState} → left ≡ [] → WrittenSoFar all left start now → Wrote (concat all) start now
all_written {all} {left} {start} {now} none s =
    subst (λ c. Wrote c start now) (sym (s.parts ∙ ap (λ es. s.done ++ concat es) none ∙ append-nil s.done)) s.wrote

module _ {T : Type 0} (F : form.Ghosts T) {all left : List (List ℕ)} {start now : WriterState} (s : WrittenSoFar all left start now) where
  -- an item was not read again
  pub not_read : (e : Error) → e.kind ≡ Memory → F.TAKES_MEMORY ≡ true → Encodes {A = Unit {0}} (concat all) F.TAKES_MEMORY start now (Err e)
  not_read e kind memory = inr (record {
    count = length s.done;
    beginning = s.wrote.taken ∙ ap (λ c. start.taken ++ c) (sym (ap (take (length s.done)) s.parts ∙ take-append_seam s.done (concat left)));
    start = s.wrote.start;
    failed = s.wrote.failed;
    back = s.wrote.back;
    reason = inr (kind, memory);
  })

  -- an item was not written whole
  pub not_written : (v : T) (rest : List (List ℕ)) (new : WriterState) (e : Error) → left ≡ F.encoding v ∷ rest → Encodes {A = Unit {0}} (F.encoding v) (F.re_reads v) now new (Err e) → Encodes {A = Unit {0}} (concat all) F.TAKES_MEMORY start new (Err e)
  not_written v rest new e is fault =
      fault_within s.wrote (concat all) (F.encoding v) (concat rest) (s.parts ∙ ap (λ es. s.done ++ concat es) is) (Unit {0}) (Unit {0}) (F.re_reads v) F.TAKES_MEMORY (F.re_reads_memory v) new e fault

-- if an item is not measured, neither is the whole
pub not_measured : {T : Type 0} (F : form.Ghosts T) (v : T) (whole : List ℕ) (left rest : List (List ℕ)) (before : ℕ) (kind : ErrorKind) → left ≡ F.encoding v ∷ rest → before + length (concat left) ≡ length whole → Stops (F.encoding v) (F.re_reads v) kind → Stops whole F.TAKES_MEMORY kind
not_measured F v whole left rest before kind is counted stops =
    stops_in (F.encoding v) whole (F.re_reads v) F.TAKES_MEMORY (omega (arith, ap (λ es. length (concat es)) is, length-append (F.encoding v) (concat rest))) (F.re_reads_memory v) stops

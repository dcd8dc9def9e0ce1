-- The results of a call that makes a value and writes it.
use Rattle.std.proofs.Common.{◌≡◌, ℕ, List, Ok, Err, Result, IfOk, IfErr, inl, inr, refl, sym, subst}
use Rattle.der_elem.specs.declared.form.Form as form
use Rattle.der_c.specs.Building.{Builds, WritesMade}
use Rattle.der_c.specs.declared.fault.Fault.{Fault}

-- what holds of the value that was made holds of what is written
pub builds_made : {T : Type 0} (F : form.Ghosts T) (shows : T → Type 0) (refuses : Fault → Type 0) (made : Result T Fault) (old new : List ℕ) (old_count count : ℕ) (old_fault fault : Fault) (answer : ℕ)
    → IfOk made shows → IfErr made refuses → WritesMade F made old new old_count count old_fault fault answer → Builds F shows refuses old new old_count count old_fault fault answer
builds_made F shows refuses (Ok v) old new old_count count old_fault fault answer ok err (inl built) = inl (record { value = built.value; shown = subst shows (sym built.shown) ok; written = built.written })
builds_made F shows refuses (Ok v) old new old_count count old_fault fault answer ok err (inr (inl never, kept)) = absurd never
builds_made F shows refuses (Ok v) old new old_count count old_fault fault answer ok err (inr (inr long, kept)) = inr (inr (record { value = long.value; shown = subst shows (sym long.shown) ok; long = long.long; is_fault = long.is_fault }), kept)
builds_made F shows refuses (Err reason) old new old_count count old_fault fault answer ok err (told, kept) = inr (inl (subst refuses (sym told) err), kept)

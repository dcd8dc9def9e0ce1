-- The results of reading a value and lending octets that it holds.
use Rattle.std.specs.Prelude.{◌≡◌, ℕ, ◌≤◌, ◌<◌, ◌^◌, List, length, slice_get, Option, Some, None, Result, Ok, Err}
use Rattle.std.specs.Borrow.{Bor}
use Rattle.der_tlv.specs.declared.error.Error.{Error}
use Rattle.der_tlv.specs.ReaderState.{ReaderState}
use Rattle.der_elem.specs.declared.form.Form as form
use Rattle.der_elem.specs.Decoding.{Decoded, NotDecoded}

-- the octets at an index among those that are held, or there are no more
abbrev pub LendsAt : List (List ℕ) → ℕ → Option (Bor (List ℕ)) → Type 0
LendsAt held index None = length held ≤ index
LendsAt held index (Some octets) = slice_get held index ≡ Some octets.now

-- a value was decoded, and octets that it holds are lent
pub record HeldRead {T : Type 0} (F : form.Ghosts T) (held : T → List (List ℕ)) (index : ℕ) (old new : ReaderState) (lent : Option (Bor (List ℕ))) : Type 0 where
  pub value : T
  pub decoded : Decoded F old new value
  pub lends : LendsAt (held value) index lent
  pub few : length (held value) < 2 ^ 32

-- a value was decoded and octets are lent, or none was decoded
abbrev pub ReadsHeld : {T : Type 0} → form.Ghosts T → (T → List (List ℕ)) → ℕ → ReaderState → ReaderState → Result (Option (Bor (List ℕ))) Error → Type 0
ReadsHeld F held index old new (Ok lent) = HeldRead F held index old new lent
ReadsHeld F held index old new (Err e) = NotDecoded F old new e.kind

-- The state of a writer, and the results of its calls.
use Rattle.std.specs.Prelude.{◌≡◌, ℕ, ◌+◌, ◌<◌, ◌≤◌, List, ◌++◌, length, take, Bool, true, false, Result, Ok, Err, IsTrue}
use Rattle.der_tlv.specs.declared.error.ErrorKind.{ErrorKind}
use Rattle.der_tlv.specs.declared.error.ErrorKind.TheVariants.{Memory, Overlength, Failed}
use Rattle.der_tlv.specs.declared.error.Error.{Error}
use Rattle.der_tlv.specs.BackState.{BackState}

-- the octets that it has taken, the address of the first of them (which no call changes; a writer whose octets move says nothing about
-- it), whether it has refused, a number of octets that it is certain to take, the kinds with which it may refuse now, and its state as a
-- writer that is filled from its end, which no call that writes forward changes
pub record WriterState : Type 0 where
  pub taken : List ℕ
  pub start : ℕ × ℕ
  pub failed : Bool
  pub room : ℕ
  pub may_refuse : ErrorKind → Bool
  pub back : BackState

-- all of the octets were taken
pub record Wrote (octets : List ℕ) (old new : WriterState) : Type 0 where
  pub taken : new.taken ≡ old.taken ++ octets
  pub start : new.start ≡ old.start
  pub failed : new.failed ≡ old.failed
  pub room : old.room ≤ new.room + length octets
  pub may_refuse : new.may_refuse ≡ old.may_refuse
  pub back : new.back ≡ old.back

-- a prefix of the octets was taken, and then the writer refused: it had refused before, or had too little space
pub record WriterRefused (octets : List ℕ) (old new : WriterState) (kind : ErrorKind) : Type 0 where
  pub count : ℕ
  pub beginning : new.taken ≡ old.taken ++ take count octets
  pub start : new.start ≡ old.start
  pub failed : new.failed ≡ true
  pub short : old.failed ≡ false → old.room < length octets
  pub permitted : IsTrue (old.may_refuse kind)
  pub back : new.back ≡ old.back

-- the result of writing these octets
abbrev pub Writes : {A : Type 0} → List ℕ → WriterState → WriterState → Result A Error → Type 0
Writes octets old new (Ok v) = Wrote octets old new
Writes octets old new (Err e) = WriterRefused octets old new e.kind

abbrev pub is_failed : ErrorKind → Bool
is_failed Failed = true
is_failed _ = false

abbrev pub is_overlength : ErrorKind → Bool
is_overlength Overlength = true
is_overlength _ = false

abbrev pub is_memory : ErrorKind → Bool
is_memory Memory = true
is_memory _ = false

-- the kinds with which a writer refuses: (17) once it has refused
abbrev pub refuses_first_with : (ErrorKind → Bool) → Bool → ErrorKind → Bool
refuses_first_with first true = is_failed
refuses_first_with first false = first

abbrev pub room_unless_failed : Bool → ℕ → ℕ
room_unless_failed true room = 0
room_unless_failed false room = room

-- The results of the calls that write and measure.
use Rattle.std.specs.Prelude.{◌≡◌, ℕ, ◌<◌, ◌≤◌, ◌^◌, List, ◌++◌, length, take, Bool, true, ◌⊎◌, Result, Ok, Err}
use Rattle.der_tlv.specs.declared.error.ErrorKind.{ErrorKind}
use Rattle.der_tlv.specs.declared.error.ErrorKind.TheVariants.{Overflow, Overlength, Memory}
use Rattle.der_tlv.specs.declared.error.Error.{Error}
use Rattle.der_tlv.specs.Writing.{WriterState, Wrote, WriterRefused}

-- why octets are not written, if no writer refuses them: their number fits no length, or memory ran out while items were read again
abbrev pub Stops : List ℕ → Bool → ErrorKind → Type 0
Stops octets re_reads kind = ((kind ≡ Overflow) × (2 ^ 32 ≤ length octets)) ⊎ ((kind ≡ Memory) × (re_reads ≡ true))

-- a prefix of the octets was written, and then no more, without a refusal of the writer
pub record Stopped (octets : List ℕ) (re_reads : Bool) (old new : WriterState) (kind : ErrorKind) : Type 0 where
  pub count : ℕ
  pub beginning : new.taken ≡ old.taken ++ take count octets
  pub start : new.start ≡ old.start
  pub failed : new.failed ≡ old.failed
  pub back : new.back ≡ old.back
  pub reason : Stops octets re_reads kind

-- the result of a call that writes these octets: all of them, or a prefix and the reason
abbrev pub Encodes : {A : Type 0} → List ℕ → Bool → WriterState → WriterState → Result A Error → Type 0
Encodes octets re_reads old new (Ok v) = Wrote octets old new
Encodes octets re_reads old new (Err e) = WriterRefused octets old new e.kind ⊎ Stopped octets re_reads old new e.kind

-- the number of octets, or why it is not returned
abbrev pub Measures : List ℕ → Bool → Result ℕ Error → Type 0
Measures octets re_reads (Ok n) = (n ≡ length octets) × (length octets < 2 ^ 32)
Measures octets re_reads (Err e) = Stops octets re_reads e.kind

-- why there is no vector of octets: memory ran out for octets whose number fits a length, or this is why they are not written
abbrev pub NoVector : List ℕ → Bool → ErrorKind → Type 0
NoVector octets re_reads kind = ((kind ≡ Memory) × (length octets < 2 ^ 32)) ⊎ Stops octets re_reads kind

-- (10): a buffer of this size is too short for these octets
abbrev pub IsTooShort : ℕ → List ℕ → ErrorKind → Type 0
IsTooShort room octets kind = (kind ≡ Overlength) × (room < length octets)

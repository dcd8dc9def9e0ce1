-- The requirements and the results of the calls that write from the back.
use Rattle.std.specs.Prelude.{◌≡◌, ℕ, ◌≤◌, List, length, Bool, true, Result, Ok, Err}
use Rattle.der_tlv.specs.declared.error.ErrorKind.TheVariants.{Memory}
use Rattle.der_tlv.specs.declared.error.Error.{Error}
use Rattle.der_tlv.specs.Writing.{WriterState}
use Rattle.der_tlv.specs.WritingBack.{Put}

-- the writer has enough space for these octets, and no gap
pub record HasRoom (octets : List ℕ) (now : WriterState) : Type 0 where
  pub closed : now.back.gap ≡ 0
  pub fits : length octets ≤ now.back.room

-- the result of putting these octets before those that are held: all of them, or memory ran out while items were read again
abbrev pub PutsBack : {A : Type 0} → List ℕ → Bool → WriterState → WriterState → Result A Error → Type 0
PutsBack octets re_reads old new (Ok v) = Put octets old new
PutsBack octets re_reads old new (Err e) = (e.kind ≡ Memory) × (re_reads ≡ true)

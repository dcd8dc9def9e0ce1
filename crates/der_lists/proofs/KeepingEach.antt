-- Octets that are read item by item.
use Rattle.std.proofs.Common.{ℕ, List}
use Rattle.der_tlv.specs.ReaderState.{ReaderState}
use Rattle.der_elem.specs.declared.form.Form as form
use Rattle.der_nest.proofs.CountedReading.{CountedSoFar}

-- some items were read, and the other octets come after them
pub record KeptSoFar {T : Type 0} (F : form.Ghosts T) (octets : List ℕ) (now : ReaderState) : Type 0 where
  pub count : ℕ
  pub read : CountedSoFar F octets now count

-- The results of checking the next value and the octets that it holds.
use Rattle.std.specs.Prelude.{ℕ, List, Result, Ok, Err}
use Rattle.std.specs.List.{All}
use Rattle.der_tlv.specs.declared.error.Error.{Error}
use Rattle.der_tlv.specs.ReaderState.{ReaderState, rest}
use Rattle.der_elem.specs.declared.form.Form as form
use Rattle.der_elem.specs.Decoding.{Decoded}
use Rattle.der_recursive.specs.Depth.{AreValuesTo}
use Rattle.der_recursive.specs.Checking.{AreNot, NextFault}

module _ {T : Type 0} (F : form.Ghosts T) (held : T → List (List ℕ)) where
  -- a value was decoded, and the octets that it holds are values to a depth
  pub record NextChecked (depth : ℕ) (old new : ReaderState) : Type 0 where
    pub value : T
    pub decoded : Decoded F old new value
    pub within : All (AreValuesTo F held depth) (held value)

  -- the next value was checked, or this is the first error
  abbrev pub ChecksNext : ℕ → ReaderState → ReaderState → Result (Unit {0}) Error → Type 0
  ChecksNext depth old new (Ok done) = NextChecked depth old new
  ChecksNext depth old new (Err e) = NextFault F held (AreValuesTo F held depth) (AreNot F held depth) old.position (rest old) e.kind

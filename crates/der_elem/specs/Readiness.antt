-- Whether a reader has failed.
use Rattle.std.specs.Prelude.{◌≡◌, true, false, Result, Ok, Err}
use Rattle.der_tlv.specs.declared.error.ErrorKind.TheVariants.{Failed}
use Rattle.der_tlv.specs.declared.error.Error.{Error}
use Rattle.der_tlv.specs.ReaderState.{ReaderState}

-- the result of asking a reader whether it has failed: it is unchanged, or has failed before (17)
abbrev pub AsksReady : ReaderState → ReaderState → Result (Unit {0}) Error → Type 0
AsksReady old new (Ok u) = (old.failed ≡ false) × (new ≡ old)
AsksReady old new (Err e) = (old.failed ≡ true) × (e.kind ≡ Failed) × (new ≡ old)

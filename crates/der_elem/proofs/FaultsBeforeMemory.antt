-- Owned types, which are read as borrowed ones and then copied: every error is found before memory is taken.
use Rattle.std.proofs.Common.{◌≡◌, false, inl, inr, Err, refl}
use Rattle.std.specs.Prelude.{IsOk}
use Rattle.der_tlv.specs.declared.error.ErrorKind.{ErrorKind}
use Rattle.der_tlv.specs.declared.header.Header.{Header}
use Rattle.der_tlv.specs.ReaderState.{ReaderState, unless_failed}
use Rattle.der_elem.specs.ContentsFormat.{ContentsFormat}
use Rattle.der_elem.specs.Decoding.{ValueDecoded, ValueNotDecoded}

module _ {T : Type 0} (F : ContentsFormat T) where
  -- octets that were read have no error
  pub none_of_decoded : {header : Header} {old new : ReaderState} {v : T} → ValueDecoded F header old new v → IsOk (unless_failed (F.parse old.rules) old)
  none_of_decoded told = rw (told.ready, told.parsed) refl

  -- octets that a type without memory does not read have an error
  pub fault_of_borrowed : {old : ReaderState} {kind : ErrorKind} → F.TAKES_MEMORY ≡ false → ValueNotDecoded F old kind → unless_failed (F.parse old.rules) old ≡ Err kind
  fault_of_borrowed none told = elim told.reason [
    | inl m ↦ absurd (let k = m.takes in cc)
    | inr e ↦ e
  ]

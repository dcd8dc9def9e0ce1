-- The result of decoding the fields of a SEQUENCE.
use Rattle.std.specs.Prelude.{◌≡◌, length, false, Result, Ok, Err}
use Rattle.der_tlv.specs.declared.error.Error.{Error}
use Rattle.der_tlv.specs.declared.error.ErrorKind.{ErrorKind}
use Rattle.der_tlv.specs.ReaderState.{ReaderState, after_read, rest, unless_failed}
use Rattle.der_tlv.specs.Reading.{Refused}
use Rattle.der_elem.specs.Decoding.{Faults}
use Rattle.der_fields.specs.FieldsFormat.{FieldsFormat}

-- fields were decoded from all of the octets
pub record FieldsDecoded {T : Type 0} (F : FieldsFormat T) (old new : ReaderState) (v : T) : Type 0 where
  pub ready : old.failed ≡ false
  pub parsed : F.octets.parse old.rules old.position (rest old) ≡ Ok (F.octets.contents v)
  pub accepted : F.octets.accepts old.rules v (rest old)
  pub after : new ≡ after_read old (length (rest old))

-- no fields were decoded: the reason, and the state of the reader
pub record FieldsNotDecoded {T : Type 0} (F : FieldsFormat T) (old new : ReaderState) (kind : ErrorKind) : Type 0 where
  pub reason : Faults F.octets.TAKES_MEMORY F.octets.FAULTS_FIRST (unless_failed (F.octets.parse old.rules) old) kind
  pub reader : Refused old new kind

-- the result of decoding fields
abbrev pub DecodesFields : {T : Type 0} → FieldsFormat T → ReaderState → ReaderState → Result T Error → Type 0
DecodesFields F old new (Ok v) = FieldsDecoded F old new v
DecodesFields F old new (Err e) = FieldsNotDecoded F old new e.kind

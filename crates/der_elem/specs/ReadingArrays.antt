-- The results of the calls that read an array item by item.
use Rattle.std.specs.Prelude.{◌≡◌, [], false, Result, Ok, Err, ◌<◌, length, ◌⊎◌}
use Rattle.der_tlv.specs.declared.error.ErrorKind.{ErrorKind}
use Rattle.der_tlv.specs.declared.error.ErrorKind.TheVariants.{Length}
use Rattle.der_tlv.specs.declared.error.Error.{Error}
use Rattle.der_tlv.specs.declared.tag.Tag.TheVariants.{Sequence}
use Rattle.der_tlv.specs.ReaderState.{ReaderState, rest, unless_failed}
use Rattle.der_tlv.specs.Reading.{Refused}
use Rattle.der_elem.specs.declared.form.Form as form
use Rattle.der_elem.specs.Decoding.{Faults, Decoded}
use Rattle.der_elem.specs.Arrays.{too_many}

-- an item was read
pub record ItemDecoded {T : Type 0} (F : form.Ghosts T) (old new : ReaderState) (v : T) : Type 0 where
  pub some : 0 < length (rest old)
  pub item : Decoded F old new v

-- no item was read: there is none (7), or it has an error
pub record NoItem {T : Type 0} (F : form.Ghosts T) (old new : ReaderState) (kind : ErrorKind) : Type 0 where
  pub reason : ((rest old ≡ []) × (kind ≡ Length Sequence)) ⊎ ((0 < length (rest old)) × Faults F.TAKES_MEMORY F.FAULTS_FIRST (unless_failed (F.parse old.rules) old) kind)
  pub reader : old.failed ≡ false → Refused old new kind

abbrev pub DecodesItem : {T : Type 0} → form.Ghosts T → ReaderState → ReaderState → Result T Error → Type 0
DecodesItem F old new (Ok v) = ItemDecoded F old new v
DecodesItem F old new (Err e) = NoItem F old new e.kind

-- an item too many
pub record ItemTooMany {T : Type 0} (F : form.Ghosts T) (old new : ReaderState) (kind : ErrorKind) : Type 0 where
  pub some : 0 < length (rest old)
  pub reason : Faults F.TAKES_MEMORY false (too_many (unless_failed (F.parse old.rules) old)) kind
  pub reader : Refused old new kind

abbrev pub RefusesItem : {T : Type 0} → form.Ghosts T → ReaderState → ReaderState → Result (Unit {0}) Error → Type 0
RefusesItem F old new (Ok u) = (rest old ≡ []) × (new ≡ old)
RefusesItem F old new (Err e) = ItemTooMany F old new e.kind

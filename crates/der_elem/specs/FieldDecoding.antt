-- The results of reading a field of a SEQUENCE (X.690 8.9).
use Rattle.std.specs.Prelude.{◌≡◌, ℕ, List, [], Bool, false, ◌⊎◌, Option, Some, None, Result, Ok, Err}
use Rattle.der_tlv.specs.declared.error.Error.{Error}
use Rattle.der_tlv.specs.declared.tag.Tag.{Tag}
use Rattle.der_tlv.specs.HeaderReading.{read_tag}
use Rattle.der_tlv.specs.ReaderState.{ReaderState, rest}
use Rattle.der_elem.specs.declared.form.Form as form
use Rattle.der_elem.specs.Decoding.{Decoded, NotDecoded}

-- the next tag is none of these
pub record OtherTag (tags : Tag → Bool) (p : ℕ) (octets : List ℕ) : Type 0 where
  pub count : ℕ
  pub tag : Tag
  pub is_next : read_tag p octets ≡ Ok (count, tag)
  pub is_other : tags tag ≡ false

-- an absent field is at the end, or before a tag that is none of these
abbrev pub DistinguishedFromNext : (Tag → Bool) → Option Tag → ℕ → List ℕ → Type 0
DistinguishedFromNext tags (Some t) p octets = Unit {0}
DistinguishedFromNext tags None p octets = (octets ≡ []) ⊎ OtherTag tags p octets

-- a field was decoded, and is distinguished from what follows it
pub record FieldDecoded {T : Type 0} (F : form.Ghosts T) (old new : ReaderState) (v : T) : Type 0 where
  pub decoded : Decoded F old new v
  pub distinguished : DistinguishedFromNext F.tags (F.first_tag_of v) old.position (rest old)

-- the result of decoding a field
abbrev pub DecodesField : {T : Type 0} → form.Ghosts T → ReaderState → ReaderState → Result T Error → Type 0
DecodesField F old new (Ok v) = FieldDecoded F old new v
DecodesField F old new (Err e) = NotDecoded F old new e.kind

-- Items that are read again from octets that were read before.
use Rattle.std.specs.Prelude.{◌≡◌, ℕ, ◌<◌, ◌≤◌, slice_get, List, [], ◌∷◌, length, true, false, Option, Some, None, Result, Ok, Err, ◌⊎◌}
use Rattle.der_tlv.specs.declared.error.ErrorKind.{ErrorKind}
use Rattle.der_tlv.specs.declared.error.ErrorKind.TheVariants.{Memory, SetOrdering}
use Rattle.der_tlv.specs.declared.error.Error.{Error}
use Rattle.der_tlv.specs.declared.encoding_rules.EncodingRules.{EncodingRules}
use Rattle.der_tlv.specs.ReaderState.{ReaderState, rest}
use Rattle.der_elem.specs.declared.form.Form as form
use Rattle.der_elem.specs.Parsing.{Parse}
use Rattle.der_elem.specs.Comparing.{Incomparable}
use Rattle.der_nest.specs.Lists.{parse_each}
use Rattle.der_nest.specs.Places.{not_above}

abbrev pub encodings_or_none : Result (List (List ℕ)) ErrorKind → List (List ℕ)
encodings_or_none (Ok es) = es
encodings_or_none (Err k) = []

-- the encodings of `count` items, one after another
abbrev pub encodings_read : ℕ → Parse → EncodingRules → ℕ → List ℕ → List (List ℕ)
encodings_read count parse rules p octets = encodings_or_none (parse_each count parse rules p octets)

-- the encodings of the items that a reader is still to read
abbrev pub encodings_left : ℕ → Parse → ReaderState → List (List ℕ)
encodings_left count parse s = encodings_read count parse s.rules s.position (rest s)

-- The next of items that are read again: nothing is left, or this item is next, or memory ran out and no item follows.
abbrev pub ReReads : {T : Type 0} → form.Ghosts T → List (List ℕ) → List (List ℕ) → Option (Result T Error) → Type 0
ReReads F old new None = (old ≡ []) × (new ≡ [])
ReReads F old new (Some (Ok v)) = F.readable v × (old ≡ F.encoding v ∷ new)
ReReads F old new (Some (Err e)) = (e.kind ≡ Memory) × (F.TAKES_MEMORY ≡ true) × (0 < length old) × (new ≡ [])

-- The item at an index, read again: there is none, or it is this one, or memory ran out.
abbrev pub ReReadsAt : {T : Type 0} → form.Ghosts T → List (List ℕ) → ℕ → Option (Result T Error) → Type 0
ReReadsAt F es i None = length es ≤ i
ReReadsAt F es i (Some (Ok v)) = F.readable v × (slice_get es i ≡ Some (F.encoding v))
ReReadsAt F es i (Some (Err e)) = (e.kind ≡ Memory) × (F.TAKES_MEMORY ≡ true) × (i < length es)

-- an item may come after the last one, if any
abbrev pub CanFollow : {T : Type 0} → (T → List ℕ) → Option T → T → Type 0
CanFollow encoding None new = Unit {0}
CanFollow encoding (Some last) new = not_above encoding new last ≡ true

-- an item is not comparable with the last one, or is smaller (11)
abbrev pub CannotFollow : {T : Type 0} → form.Ghosts T → Option T → T → ErrorKind → Type 0
CannotFollow F None new kind = ⊥
CannotFollow F (Some last) new kind =
    Incomparable F last new kind ⊎ ((kind ≡ SetOrdering) × (not_above F.encoding new last ≡ false))

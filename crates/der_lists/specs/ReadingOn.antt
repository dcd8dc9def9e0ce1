-- Items that are read one after another until nothing is left, whatever the octets are.
use Rattle.std.specs.Prelude.{◌≡◌, ℕ, ◌<◌, List, [], length, map, true, false, if◌then◌else◌, slice_get, ◌≤◌, Option, Some, None, Result, Ok, Err, Vec}
use Rattle.std.specs.List.{All}
use Rattle.std.specs.declared.alloc.Global.{Global}
use Rattle.der_tlv.specs.declared.error.Error.{Error}
use Rattle.der_tlv.specs.declared.error.ErrorKind.TheVariants.{Memory}
use Rattle.der_tlv.specs.ReaderState.{ReaderState, rest}
use Rattle.der_elem.specs.declared.form.Form as form
use Rattle.der_elem.specs.Parsing.{Parse}
use Rattle.der_elem.specs.Decoding.{Decodes}
use Rattle.der_nest.specs.Lists.{AcceptsEach}
use Rattle.der_nest.specs.ReReading.{ReReads, encodings_left}

-- the octets that are left: none after an error
abbrev pub octets_to_come : ReaderState → List ℕ
octets_to_come s = if s.failed then [] else rest s

-- the encodings of the items that are left: none after an error
abbrev pub encodings_to_come : Parse → ReaderState → List (List ℕ)
encodings_to_come parse s = if s.failed then [] else encodings_left (length (rest s)) parse s

-- after an error nothing is left; otherwise the octets that are left are items
abbrev pub HasItems : {T : Type 0} → form.Ghosts T → ReaderState → Type 0
HasItems {T} F s = s.failed ≡ false → (vs : List T) × AcceptsEach (F.accepts s.rules) vs (rest s)

-- the next item: nothing is left; or the item at the position of the reader, or the reason why there is none
abbrev pub ReadsNext : {T : Type 0} → form.Ghosts T → ReaderState → ReaderState → Option (Result T Error) → Type 0
ReadsNext F old new None = (octets_to_come old ≡ []) × (new ≡ old)
ReadsNext F old new (Some result) = (0 < length (octets_to_come old)) × Decodes F old new result

-- the result of a call for the next item: if the octets are items, the next one, or memory ran out and no item follows
pub record ReadsOn {T : Type 0} (F : form.Ghosts T) (old new : ReaderState) (item : Option (Result T Error)) : Type 0 where
  pub next : ReadsNext F old new item
  pub items : HasItems F old → ReReads F (encodings_to_come F.parse old) (encodings_to_come F.parse new) item × HasItems F new

-- the number of items, or memory ran out
abbrev pub Counts : {T : Type 0} → form.Ghosts T → List (List ℕ) → Result ℕ Error → Type 0
Counts F es (Ok count) = count ≡ length es
Counts F es (Err e) = (e.kind ≡ Memory) × (F.TAKES_MEMORY ≡ true)

-- the item at an index: there is none, or it is this one, or memory ran out for it or for one before it
abbrev pub ComesAt : {T : Type 0} → form.Ghosts T → List (List ℕ) → ℕ → Option (Result T Error) → Type 0
ComesAt F es i None = length es ≤ i
ComesAt F es i (Some (Ok v)) = F.readable v × (slice_get es i ≡ Some (F.encoding v))
ComesAt F es i (Some (Err e)) = (e.kind ≡ Memory) × (F.TAKES_MEMORY ≡ true)

-- readable items with these encodings, or memory ran out
abbrev pub ReReadsAll : {T : Type 0} → form.Ghosts T → List (List ℕ) → Result (Vec T Global) Error → Type 0
ReReadsAll F es (Ok vector) = All F.readable vector.items × (map F.encoding vector.items ≡ es)
ReReadsAll F es (Err e) = e.kind ≡ Memory

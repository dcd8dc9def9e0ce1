-- The items of a borrowed set, one after another.
use Rattle.std.specs.Prelude.{◌≡◌, ℕ, ◌<◌, ◌≤◌, List, [], ◌∷◌, length, map, Bool, true, Option, Some, None, Result, Ok, Err, slice_get}
use Rattle.der_tlv.specs.declared.error.ErrorKind.TheVariants.{Memory}
use Rattle.der_tlv.specs.declared.error.Error.{Error}
use Rattle.der_elem.specs.declared.form.Form as form
use Rattle.std.specs.List.{All}
use Rattle.der_elem.specs.Items.{AreCopies}
use Rattle.der_nest.specs.BorrowedSets.{Borrowed, OfItems, OfOctets, encodings_of}

-- whether giving an item takes memory: copying it from a slice, or reading it again from octets
abbrev pub giving_takes_memory : {T : Type 0} → form.Ghosts T → Bool → Borrowed T → Bool
giving_takes_memory F copying (OfItems vs) = copying
giving_takes_memory F copying (OfOctets es) = F.TAKES_MEMORY

-- the first item is a copy of the item of the slice, or a readable value that has the first encoding, and these are left
abbrev pub GivesItem : {T : Type 0} → form.Ghosts T → (T → T → Type 0) → Borrowed T → T → Borrowed T → Type 0
GivesItem {T} F is_copy (OfItems vs) v left =
    (x : T) × (others : List T) × (vs ≡ x ∷ others) × is_copy x v × (left ≡ OfItems others)
GivesItem F is_copy (OfOctets es) v left =
    (others : List (List ℕ)) × F.readable v × (es ≡ F.encoding v ∷ others) × (left ≡ OfOctets others)

-- The next item: nothing is left, or this item is next, or memory ran out and no item follows.
abbrev pub GivesNext : {T : Type 0} → form.Ghosts T → (T → T → Type 0) → Bool → Borrowed T → Option (Result T Error) → Borrowed T → Type 0
GivesNext F is_copy copying old None new = (encodings_of F.encoding old ≡ []) × (encodings_of F.encoding new ≡ [])
GivesNext F is_copy copying old (Some (Ok v)) new = GivesItem F is_copy old v new
GivesNext F is_copy copying old (Some (Err e)) new =
    (e.kind ≡ Memory) × (giving_takes_memory F copying old ≡ true) × (0 < length (encodings_of F.encoding old)) × (encodings_of F.encoding new ≡ [])

-- the item at an index is a copy of the item of the slice, or a readable value that has the encoding at the index
abbrev pub GivesThere : {T : Type 0} → form.Ghosts T → (T → T → Type 0) → Borrowed T → ℕ → T → Type 0
GivesThere {T} F is_copy (OfItems vs) i v = (x : T) × (slice_get vs i ≡ Some x) × is_copy x v
GivesThere F is_copy (OfOctets es) i v = F.readable v × (slice_get es i ≡ Some (F.encoding v))

-- The item at an index: there is none, or it is this one, or memory ran out.
abbrev pub GivesAt : {T : Type 0} → form.Ghosts T → (T → T → Type 0) → Bool → Borrowed T → ℕ → Option (Result T Error) → Type 0
GivesAt F is_copy copying v i None = length (encodings_of F.encoding v) ≤ i
GivesAt F is_copy copying v i (Some (Ok x)) = GivesThere F is_copy v i x
GivesAt F is_copy copying v i (Some (Err e)) =
    (e.kind ≡ Memory) × (giving_takes_memory F copying v ≡ true) × (i < length (encodings_of F.encoding v))

-- the items are copies of the items of the slice, or readable values that have the encodings
abbrev pub AreItemsOf : {T : Type 0} → form.Ghosts T → (T → T → Type 0) → Borrowed T → List T → Type 0
AreItemsOf F is_copy (OfItems vs) items = AreCopies is_copy vs items
AreItemsOf F is_copy (OfOctets es) items = All F.readable items × (map F.encoding items ≡ es)

-- The next item of a borrowed set, lent or read again.
use Rattle.std.specs.Prelude.{◌≡◌, ℕ, ◌<◌, List, [], ◌∷◌, length, true, false, Option, Some, None, Result, Ok, Err}
use Rattle.der_tlv.specs.declared.error.ErrorKind.TheVariants.{Memory}
use Rattle.der_tlv.specs.declared.error.Error.{Error}
use Rattle.der_elem.specs.declared.form.Form as form
use Rattle.der_nest.specs.BorrowedSets.{Borrowed, OfItems, OfOctets, encodings_of}
use Rattle.der_nest.specs.BorrowedItems.{giving_takes_memory}
use Rattle.der_nest.specs.declared.set_of_ref.found.Found.{Found}
use Rattle.der_nest.specs.declared.set_of_ref.found.Found.TheVariants.{Read, Lent}

-- the first item is the item of the slice, or a readable value that has the first encoding, and these are left
abbrev pub Finds : {T : Type 0} → form.Ghosts T → Borrowed T → Found T → Borrowed T → Type 0
Finds {T} F (OfItems vs) (Lent x) left = (others : List T) × (vs ≡ x.now ∷ others) × (left ≡ OfItems others)
Finds F (OfItems vs) (Read v) left = ⊥
Finds F (OfOctets es) (Lent x) left = ⊥
Finds F (OfOctets es) (Read v) left =
    (others : List (List ℕ)) × F.readable v × (es ≡ F.encoding v ∷ others) × (left ≡ OfOctets others)

-- the next item: nothing is left, or this item itself is next, or memory ran out and no item follows
abbrev pub FindsNext : {T : Type 0} → form.Ghosts T → Borrowed T → Option (Result (Found T) Error) → Borrowed T → Type 0
FindsNext F old None new = (encodings_of F.encoding old ≡ []) × (encodings_of F.encoding new ≡ [])
FindsNext F old (Some (Ok found)) new = Finds F old found new
FindsNext F old (Some (Err e)) new =
    (e.kind ≡ Memory) × (giving_takes_memory F false old ≡ true) × (0 < length (encodings_of F.encoding old)) × (encodings_of F.encoding new ≡ [])

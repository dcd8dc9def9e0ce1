-- The first item of a list that is wanted.
use Rattle.std.specs.Prelude.{◌≡◌, ℕ, ◌+◌, ◌<◌, List, [], ◌∷◌, length, Bool, false, if◌then◌else◌, Option, Some, None}
use Rattle.der_elem.specs.Accepting.{Fits}
use Rattle.der_elem.specs.declared.form.Form as form
use Rattle.der_lists.specs.Items.{AreItems}
use Rattle.der_places.specs.declared.place.Place.{Place}
use Rattle.der_c.specs.Building.{octets_at}
use Rattle.der_c.specs.Items.{EndsWithin, FrontIs}

-- the first of the items that is wanted, and its byte range, where the encodings of the items are one after another from an offset on
abbrev pub first_of : {T : Type 0} → form.Ghosts T → (T → Bool) → ℕ → List T → Option (T × Place)
first_of F wanted offset [] = None
first_of F wanted offset (v ∷ vs) =
    if wanted v
    then Some (v, record { offset = offset; length = length (F.encoding v) })
    else first_of F wanted (offset + length (F.encoding v)) vs

-- the octets at a byte range are items, and this is the first of them that is wanted
pub record IsFirst {T : Type 0} (F : form.Ghosts T) (wanted : T → Bool) (octets : List ℕ) (place : Place) (found : Option (T × Place)) : Type 0 where
  pub items : List T
  pub are : AreItems F (octets_at octets place) items
  pub found_is : found ≡ first_of F wanted place.offset items

-- if the octets that are left are items, there are none
abbrev pub NoneIsLeft : {T : Type 0} → form.Ghosts T → List ℕ → Place → Type 0
NoneIsLeft {T} F octets left = F.TAKES_MEMORY ≡ false → Fits octets → EndsWithin octets left → (items : List T) → AreItems F (octets_at octets left) items → items ≡ []

-- the item at the front of what is left, with its byte range
pub record HasFront {T : Type 0} (F : form.Ghosts T) (octets : List ℕ) (left : Place) (item : T × Place) : Type 0 where
  pub front : FrontIs F octets left item.0 item.1
  pub some : 0 < item.1.length

abbrev pub FindsFront : {T : Type 0} → form.Ghosts T → List ℕ → Place → Option (T × Place) → Type 0
FindsFront F octets left None = NoneIsLeft F octets left
FindsFront F octets left (Some item) = HasFront F octets left item

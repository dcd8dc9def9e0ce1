-- The parts of a part are read from the same byte ranges, and equal values too.
use Rattle.std.proofs.Common.{◌≡◌, ℕ, List, inl, inr, subst, sym}
use Rattle.der_elem.specs.declared.form.Form as form
use Rattle.der_places.specs.declared.place.Place.{Place}
use Rattle.der_c.specs.Building.{FirstRefused, HasParts, IsAt, Parts, field, no_more, number, within}
use Rattle.der_c.specs.declared.fault.Fault.{Fault}

pub has_within : {V W : Type 0} (octets : List ℕ) (of : W → V) (parts : Parts V) (w : W) → HasParts octets parts (of w) → HasParts octets (within of parts) w
has_within octets of no_more w h = h
has_within octets of (number shown refused others) w h = (h.0, has_within octets of others w h.1)
has_within octets of (field F place at others) w h = (h.0, has_within octets of others w h.1)

pub refused_within : {V W : Type 0} (octets : List ℕ) (of : W → V) (parts : Parts V) (fault : Fault) → FirstRefused octets parts fault → FirstRefused octets (within of parts) fault
refused_within octets of no_more fault h = h
refused_within octets of (number shown refused others) fault (inl h) = inl h
refused_within octets of (number shown refused others) fault (inr h) = inr (refused_within octets of others fault h)
refused_within octets of (field F place at others) fault (inl h) = inl h
refused_within octets of (field F place at others) fault (inr h) = inr (h.0, refused_within octets of others fault h.1)

pub at_same : {T : Type 0} {F : form.Ghosts T} {octets : List ℕ} {place : Place} {x y : T} → x ≡ y → IsAt F octets place y → IsAt F octets place x
at_same {T} {F} {octets} {place} e h = let P : T → Type 0 = λ v. IsAt F octets place v in subst P (sym e) h

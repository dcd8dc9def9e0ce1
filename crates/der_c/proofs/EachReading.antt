-- Values that are read one after another from byte ranges.
use Rattle.std.proofs.Common.{◌≡◌, ℕ, ◌-◌, ◌+◌, List, [], ◌∷◌, ◌++◌, length, refl, sym, ap, ◌∙◌, subst, append_assoc, arith}
use Rattle.std.proofs.lemmas.List.{append-nil, length-append}
use Rattle.der_elem.specs.declared.form.Form as form
use Rattle.der_places.specs.declared.place.Place.{Place}
use Rattle.der_c.specs.declared.fault.Fault.{Fault}
use Rattle.der_c.specs.declared.path.refusal.PathRefusal.{PathRefusal}
use Rattle.der_c.specs.Building.{IsAt}
use Rattle.der_c.specs.ChainFaults.{refusal_at, HasNone, NoneThere}
use Rattle.der_c.specs.ChainPlaces.{EachOf}

-- the values that were read, and the byte ranges that are left
pub record ReadSoFar {T : Type 0} (F : form.Ghosts T) (octets : List ℕ) (places : List Place) (found : List T) (left : List Place) : Type 0 where
  pub done : List Place
  pub places_are : places ≡ done ++ left
  pub are_read : EachOf F octets done found

module _ {T : Type 0} (F : form.Ghosts T) (octets : List ℕ) where
  pub begun : (places : List Place) (found : List T) → found ≡ [] → ReadSoFar F octets places found places
  begun places found none = record { done = []; places_are = refl; are_read = subst (λ l. EachOf F octets [] l) (sym none) tt }

  read_more : (ps : List Place) (vs : List T) (p : Place) (v : T) → EachOf F octets ps vs → IsAt F octets p v → EachOf F octets (ps ++ p ∷ []) (vs ++ v ∷ [])
  read_more [] [] p v each one = (one, tt)
  read_more [] (w ∷ ws) p v each one = absurd each
  read_more (q ∷ qs) [] p v each one = absurd each
  read_more (q ∷ qs) (w ∷ ws) p v each one = (each.0, read_more qs ws p v each.1 one)

  module _ (places : List Place) (found : List T) (left : List Place) (place : Place) (others : List Place) (is : left ≡ place ∷ others) (so : ReadSoFar F octets places found left) where
    pub one_more : (v : T) (more : List T) → IsAt F octets place v → more ≡ found ++ v ∷ [] → ReadSoFar F octets places more others
    one_more v more read are = record {
      done = so.done ++ place ∷ [];
      places_are = so.places_are ∙ ap (λ l. so.done ++ l) is ∙ sym (append_assoc so.done (place ∷ []) others);
      are_read = subst (λ l. EachOf F octets (so.done ++ place ∷ []) l) (sym are) (read_more so.done found place v so.are_read read);
    }

    pub not_read : (fault : Fault) (refusal : PathRefusal) → NoneThere F octets place fault → refusal ≡ refusal_at fault (length places - length left) → HasNone F octets places refusal
    not_read fault refusal none told =
        let all : length places ≡ length so.done + length left = ap length so.places_are ∙ length-append so.done left in
        let at : length places - length left ≡ length so.done = omega arith in
        record {
          before = so.done;
          place = place;
          others = others;
          places_are = so.places_are ∙ ap (λ l. so.done ++ l) is;
          values = found;
          are_values = so.are_read;
          fault = fault;
          none = none;
          refusal_is = told ∙ ap (refusal_at fault) at;
        }

  pub whole_read : (places : List Place) (found : List T) (left : List Place) → left ≡ [] → ReadSoFar F octets places found left → EachOf F octets places found
  whole_read places found left none so = subst (λ p. EachOf F octets p found) (sym (so.places_are ∙ ap (λ l. so.done ++ l) none ∙ append-nil so.done)) so.are_read

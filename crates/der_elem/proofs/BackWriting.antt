-- Items that are written from the last.
use Rattle.std.proofs.Common.{◌≡◌, ℕ, zero, suc, ◌+◌, ◌-◌, ◌<◌, ◌≤◌, ◌^◌, List, [], ◌∷◌, ◌++◌, length, drop, get_or, Bool, true, inl, inr, Ok, Err, sym, ap, ◌∙◌, arith, append_assoc, flat_map, refl, subst}
use Rattle.std.proofs.lemmas.List.{length-append, append-nil}
use Rattle.der_tlv.specs.declared.error.ErrorKind.{ErrorKind}
use Rattle.der_tlv.specs.declared.error.ErrorKind.TheVariants.{Memory}
use Rattle.der_tlv.specs.declared.error.Error.{Error}
use Rattle.der_tlv.specs.Writing.{WriterState, Wrote}
use Rattle.der_tlv.specs.WritingBack.{Put, Opened, Closed}
use Rattle.der_elem.specs.Encoding.{Stops, Encodes}
use Rattle.der_elem.specs.EncodingBack.{HasRoom}

-- one part, and then another before it
pub put_both : {a b : List ℕ} {old mid new : WriterState} → Put b old mid → Put a mid new → Put (a ++ b) old new
put_both {a} {b} {old} w v = record {
  held = v.held ∙ ap (λ c. a ++ c) w.held ∙ sym (append_assoc a b old.back.held);
  room = let r = w.room in let s = v.room in omega (arith, length-append a b);
  gap = v.gap ∙ w.gap;
  start = v.start ∙ w.start;
}

-- the octets from an item on
at : {T : Type 0} (f : T → List ℕ) (xs : List T) (i : ℕ) (x : T) → i < length xs → get_or xs i x ≡ x → flat_map f (drop i xs) ≡ f x ++ flat_map f (drop (suc i) xs)
at f [] i x h e = absurd (omega arith)
at f (y ∷ xs) zero x h e = ap (λ z. f z ++ flat_map f xs) e
at f (y ∷ xs) (suc i) x h e = at f xs i x (omega arith) e

-- these octets are not more than all the octets
some : {T : Type 0} (f : T → List ℕ) (xs : List T) (i : ℕ) → length (flat_map f (drop i xs)) ≤ length (flat_map f xs)
some f [] zero = omega arith
some f [] (suc i) = omega arith
some f (y ∷ xs) zero = omega arith
some f (y ∷ xs) (suc i) = let s = some f xs i in omega (arith, length-append (f y) (flat_map f xs))

module _ {T : Type 0} (f : T → List ℕ) (xs : List T) (n i : ℕ) (x : T) (next : n ≡ suc i) (h : i < length xs) (e : get_or xs i x ≡ x) {old mid : WriterState} (put : Put (flat_map f (drop n xs)) old mid) where
  behind : flat_map f (drop i xs) ≡ f x ++ flat_map f (drop n xs)
  behind = at f xs i x h e ∙ ap (λ m. f x ++ flat_map f (drop m xs)) (sym next)

  -- there is enough space for an item
  pub room_at : HasRoom (flat_map f xs) old → HasRoom (f x) mid
  room_at room = record {
    closed = put.gap ∙ room.closed;
    fits = let s = some f xs i in let r = put.room in omega (arith, room.fits, ap length behind, length-append (f x) (flat_map f (drop n xs)));
  }

  -- the item is before the others
  pub put_at : {new : WriterState} → Put (f x) mid new → Put (flat_map f (drop i xs)) old new
  put_at {new} v = subst (λ c. Put c old new) (sym behind) (put_both put v)

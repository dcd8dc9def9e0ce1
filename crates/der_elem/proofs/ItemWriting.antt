-- A list of items that is written item by item.
use Rattle.std.proofs.Common.{◌≡◌, ℕ, zero, suc, ◌+◌, ◌<◌, ◌≤◌, List, [], ◌∷◌, ◌++◌, length, take, drop, get_or, Bool, true, sym, ap, ◌∙◌, arith, append_assoc, flat_map}
use Rattle.std.specs.List.{list_any}
use Rattle.std.proofs.lemmas.List.Folds.{list_any_at, length-flat_map-take}
use Rattle.der_tlv.specs.declared.error.ErrorKind.{ErrorKind}
use Rattle.der_elem.specs.Encoding.{Stops}
use Rattle.der_elem.proofs.Written.{stops_in}

-- a list's octets at an item: those before it, its own and those after it
pub split_at : {T : Type 0} (f : T → List ℕ) (xs : List T) (i : ℕ) (x : T) → i < length xs → get_or xs i x ≡ x → flat_map f xs ≡ flat_map f (take i xs) ++ (f x ++ flat_map f (drop (suc i) xs))
split_at f [] i x h e = absurd (omega arith)
split_at f (y ∷ xs) zero x h e = ap (λ z. f z ++ flat_map f xs) e
split_at f (y ∷ xs) (suc i) x h e = ap (λ c. f y ++ c) (split_at f xs i x (omega arith) e) ∙ sym (append_assoc (f y) (flat_map f (take i xs)) (f x ++ flat_map f (drop (suc i) xs)))

pub re_reads_at : {T : Type 0} (f : T → Bool) (xs : List T) (i : ℕ) (x : T) → i < length xs → get_or xs i x ≡ x → f x ≡ true → list_any f xs ≡ true
re_reads_at f xs i x h e m = list_any_at f xs i x h (ap f e ∙ m)

-- an item is no longer than the list
pub length_at : {T : Type 0} (f : T → List ℕ) (xs : List T) (i : ℕ) (x : T) → i < length xs → get_or xs i x ≡ x → length (flat_map f (take i xs)) + length (f x) ≤ length (flat_map f xs)
length_at f xs i x h e = omega (arith, length-flat_map-take f xs i x h, ap (λ x. length (f x)) e)

pub stops_at_item : {T : Type 0} (f : T → List ℕ) (m : T → Bool) (xs : List T) (i : ℕ) (x : T) {kind : ErrorKind} → i < length xs → get_or xs i x ≡ x → Stops (f x) (m x) kind → Stops (flat_map f xs) (list_any m xs) kind
stops_at_item f m xs i x h e =
    stops_in (f x) (flat_map f xs) (m x) (list_any m xs) (omega (arith, length_at f xs i x h e)) (re_reads_at m xs i x h e)

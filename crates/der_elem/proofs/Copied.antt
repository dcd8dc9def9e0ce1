-- Copies of the items of a list, one by one.
use Rattle.std.proofs.Common.{◌≡◌, ℕ, ◌+◌, ◌<◌, List, [], ◌∷◌, ◌++◌, length, take, get_or, refl, ap, subst, sym, add-one}
use Rattle.std.proofs.Math.Seq.{take-suc}
use Rattle.der_elem.specs.Items.{AreCopies}

copies_append : {T : Type 0} (is_copy : T → T → Type 0) (vs ws : List T) (v w : T) → AreCopies is_copy vs ws → is_copy v w → AreCopies is_copy (vs ++ v ∷ []) (ws ++ w ∷ [])
copies_append is_copy [] [] v w c d = (d, refl)
copies_append is_copy [] (y ∷ ws) v w c d = absurd (cc)
copies_append is_copy (x ∷ vs) [] v w c d = absurd c
copies_append is_copy (x ∷ vs) (y ∷ ws) v w (c, cs) d = (c, copies_append is_copy vs ws v w cs d)

-- with one more item
pub copies_more : {T : Type 0} (is_copy : T → T → Type 0) (xs ws : List T) (i : ℕ) (v w : T) → i < length xs → get_or xs i v ≡ v → AreCopies is_copy (take i xs) ws → is_copy v w → AreCopies is_copy (take (i + 1) xs) (ws ++ w ∷ [])
copies_more is_copy xs ws i v w h e c d =
    let more : take (i + 1) xs ≡ take i xs ++ v ∷ [] = rw (add-one, take-suc xs i v h) (ap (λ x. take i xs ++ x ∷ []) e) in
    subst (λ vs. AreCopies is_copy vs (ws ++ w ∷ [])) (sym more) (copies_append is_copy (take i xs) ws v w c d)

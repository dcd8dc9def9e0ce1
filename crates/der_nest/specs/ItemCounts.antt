-- The number of items of lists: none if there are no contents octets, and the same for a copy as for its source.
use Rattle.std.proofs.Common.{◌≡◌, ℕ, suc, List, [], ◌∷◌, length, refl, ap, arith, flat_map}
use Rattle.der_elem.specs.Items.{AreCopies}

-- if there are no items, there are no contents octets
pub no_items : {T : Type 0} (encoding : T → List ℕ) (vs : List T) → length vs ≡ 0 → flat_map encoding vs ≡ []
no_items encoding [] none = refl
no_items encoding (v ∷ vs) none = absurd (omega (arith, none))

-- a copy of a list has the same number of items
pub same_count : {T : Type 0} (is_copy : T → T → Type 0) (vs ws : List T) → AreCopies is_copy vs ws → length ws ≡ length vs
same_count is_copy [] ws c = ap length c
same_count is_copy (v ∷ vs) [] c = absurd c
same_count is_copy (v ∷ vs) (w ∷ ws) (c, cs) = ap suc (same_count is_copy vs ws cs)

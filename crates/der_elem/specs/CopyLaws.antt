-- Copies of lists have the properties of the lists, if copies of items have those of the items.
use Rattle.std.specs.List.{list_any}
use Rattle.std.proofs.Common.{◌≡◌, List, [], ◌∷◌, ◌++◌, Bool, ◌||◌, sym, ap, ◌∙◌, subst, flat_map, IsTrue}
use Rattle.std.specs.Cmp.Lexicographic.{pointwise}
use Rattle.std.proofs.lemmas.Bool.{and_from}
use Rattle.der_elem.specs.declared.form.Form as form
use Rattle.der_elem.specs.Items.{AllComparable, AreCopies}

-- if copies of items are equal to them, so are copies of lists
pub copies_are_equal : {T : Type 0} (is_copy : T → T → Type 0) (eq : T → T → Bool) (same : (v w : T) → is_copy v w → IsTrue (eq v w)) (vs ws : List T) → AreCopies is_copy vs ws → IsTrue (pointwise eq vs ws)
copies_are_equal is_copy eq same [] ws c = ap (pointwise eq []) c
copies_are_equal is_copy eq same (v ∷ vs) [] c = absurd c
copies_are_equal is_copy eq same (v ∷ vs) (w ∷ ws) (c, cs) = and_from (eq v w) (pointwise eq vs ws) (same v w c) (copies_are_equal is_copy eq same vs ws cs)

module _ {T : Type 0} (F : form.Ghosts T) (is_copy : T → T → Type 0) where
  pub copies_encoding : (copy_encoding : (v w : T) → is_copy v w → F.encoding w ≡ F.encoding v) (vs ws : List T) → AreCopies is_copy vs ws → flat_map F.encoding ws ≡ flat_map F.encoding vs
  copies_encoding same [] ws c = ap (flat_map F.encoding) c
  copies_encoding same (v ∷ vs) [] c = absurd c
  copies_encoding same (v ∷ vs) (w ∷ ws) (c, cs) = ap (λ s. s ++ flat_map F.encoding ws) (same v w c) ∙ ap (λ s. F.encoding v ++ s) (copies_encoding same vs ws cs)

  pub copies_comparable : (copy_comparable : (v w x : T) → is_copy v w → F.comparable v x → F.comparable w x) (vs ws xs : List T) → AreCopies is_copy vs ws → AllComparable F.comparable vs xs → AllComparable F.comparable ws xs
  copies_comparable same [] ws xs c o = subst (λ ws. AllComparable F.comparable ws xs) (sym c) o
  copies_comparable same (v ∷ vs) [] xs c o = absurd c
  copies_comparable same (v ∷ vs) (w ∷ ws) [] c o = tt
  copies_comparable same (v ∷ vs) (w ∷ ws) (x ∷ xs) (c, cs) (o, os) = (same v w x c o, copies_comparable same vs ws xs cs os)

  pub copies_re_read : (copy_re_reads : (v w : T) → is_copy v w → F.re_reads w ≡ F.re_reads v) (vs ws : List T) → AreCopies is_copy vs ws → list_any F.re_reads ws ≡ list_any F.re_reads vs
  copies_re_read same [] ws c = ap (list_any F.re_reads) c
  copies_re_read same (v ∷ vs) [] c = absurd c
  copies_re_read same (v ∷ vs) (w ∷ ws) (c, cs) = ap (λ b. b || list_any F.re_reads ws) (same v w c) ∙ ap (λ b. F.re_reads v || b) (copies_re_read same vs ws cs)

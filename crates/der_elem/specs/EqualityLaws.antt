-- Lists of items are equal exactly if their encodings are, if that holds of their items.
use Rattle.std.proofs.Common.{◌≡◌, ℕ, List, [], ◌∷◌, ◌++◌, length, Bool, refl, sym, ap, ◌∙◌, arith, flat_map, IsTrue, ◌↔◌}
use Rattle.std.specs.Cmp.Lexicographic.{pointwise}
use Rattle.std.proofs.lemmas.Bool.{and_parts, and_from}
use Rattle.std.proofs.lemmas.List.{length-append}
use Rattle.der_tlv.specs.declared.tag.Tag.{Tag}
use Rattle.der_tlv.specs.HeaderOctets.{tlv}
use Rattle.der_tlv.specs.HeaderLaws.{tlv-unique}
use Rattle.der_elem.specs.Items.{AllComparable}
use Rattle.der_elem.specs.OrderLaws.{encoding-some}

module _ {T : Type 0} (tag_of : T → Tag) (contents encoding : T → List ℕ) (encoding_is : (v : T) → encoding v ≡ tlv (tag_of v) (contents v)) where
  -- the first of two joined encodings is distinguished from what follows
  pub encoding-unique : (v w : T) (x y : List ℕ) → encoding v ++ x ≡ encoding w ++ y → (encoding v ≡ encoding w) × (x ≡ y)
  encoding-unique v w x y e =
      let f : tlv (tag_of v) (contents v) ++ x ≡ tlv (tag_of w) (contents w) ++ y = ap (λ s. s ++ x) (sym (encoding_is v)) ∙ e ∙ ap (λ s. s ++ y) (encoding_is w) in
      let same = tlv-unique (tag_of v) (tag_of w) (contents v) (contents w) x y f in
      (encoding_is v ∙ ap (λ t. tlv t (contents v)) same.0 ∙ ap (tlv (tag_of w)) same.1 ∙ sym (encoding_is w), same.2)

  module _ (comparable : T → T → Type 0) (eq : T → T → Bool) (encoding_eq : (v w : T) → comparable v w → IsTrue (eq v w) ↔ (encoding v ≡ encoding w)) where
    pub items_eq : (vs ws : List T) → AllComparable comparable vs ws → IsTrue (pointwise eq vs ws) ↔ (flat_map encoding vs ≡ flat_map encoding ws)
    items_eq [] [] o = (λ _. refl, λ _. refl)
    items_eq [] (w ∷ ws) o = (λ h. absurd (cc), λ h. let some = encoding-some tag_of contents encoding encoding_is w in absurd (omega (arith, ap length h, length-append (encoding w) (flat_map encoding ws))))
    items_eq (v ∷ vs) [] o = (λ h. absurd (cc), λ h. let some = encoding-some tag_of contents encoding encoding_is v in absurd (omega (arith, ap length h, length-append (encoding v) (flat_map encoding vs))))
    items_eq (v ∷ vs) (w ∷ ws) (o, os) =
        let others = items_eq vs ws os in
        let one = encoding_eq v w o in (
          (λ h. let p = and_parts (eq v w) (pointwise eq vs ws) h in ap (λ c. c ++ flat_map encoding vs) (one.0 p.0) ∙ ap (λ c. encoding w ++ c) (others.0 p.1)),
          (λ h. let u = encoding-unique v w (flat_map encoding vs) (flat_map encoding ws) h in and_from (eq v w) (pointwise eq vs ws) (one.1 u.0) (others.1 u.1)),
        )

-- Equality of tags.
use Rattle.std.specs.Prelude.{◌≡◌, ℕ, Bool, true, false, ◌&&◌, ◌==◌, List, [], ◌∷◌}
use Rattle.std.specs.Bool.{beq, Decides}
use Rattle.std.proofs.Common.{refl, ap, ◌∙◌, inl, inr, subst, eq-eqb}
use borrow.Author.Tests.{eqb-true}
use denote.Struct.Field.{Field}
use denote.Struct.Values.{Values}
use denote.Enum.Declared.{Choice, values_one}
use denote.Enum.Compared.{Each, by}
use Rattle.der_tlv.specs.declared.tag.number.TagNumber.{TagNumber}
use Rattle.der_tlv.specs.declared.tag.Tag.{Tag}
use Rattle.std.specs.Ordering.{is_eq}
use Rattle.std.proofs.lemmas.Bool.Decides.{same_from_decides}
use Rattle.der_tlv.specs.Octets.{lex}
use Rattle.der_tlv.specs.Identifier.{identifier}
use Rattle.der_tlv.specs.IdentifierLaws.{identifier_decides}
use Rattle.der_tlv.specs.contracts.tag.TagPartialEq.TheImpl.{ghosts}
use Rattle.der_tlv.specs.contracts.tag.Tag.{enum}

-- at each variant the test is true only for equal fields
Exact : (variants : List (List Field)) → Each Bool variants → Type 0
Exact [] tests = Unit {0}
Exact (fields ∷ variants) tests = ((x y : Values fields) → tests.0 x y ≡ true → x ≡ y) × Exact variants tests.1

-- two values are the same if the test is true for them
exact : (variants : List (List Field)) (tests : Each Bool variants) → Exact variants tests → (x y : Choice variants) → by false false variants tests x y ≡ true → x ≡ y
unfolding Exact
exact [] tests each x y e = absurd x
exact (fields ∷ variants) tests each (inl x) (inl y) e = ap inl (each.0 x y e)
exact (fields ∷ variants) tests each (inl x) (inr y) e = absurd (cc)
exact (fields ∷ variants) tests each (inr x) (inl y) e = absurd (cc)
exact (fields ∷ variants) tests each (inr x) (inr y) e = ap inr (exact variants tests.1 each.1 x y e)

-- at each variant the test is true for equal fields
Reflexive : (variants : List (List Field)) → Each Bool variants → Type 0
Reflexive [] tests = Unit {0}
Reflexive (fields ∷ variants) tests = ((x : Values fields) → tests.0 x x ≡ true) × Reflexive variants tests.1

-- the test is true for a value and itself
reflexive : (variants : List (List Field)) (tests : Each Bool variants) → Reflexive variants tests → (x : Choice variants) → by false false variants tests x x ≡ true
unfolding Reflexive
reflexive [] tests each x = absurd x
reflexive (fields ∷ variants) tests each (inl x) = each.0 x
reflexive (fields ∷ variants) tests each (inr x) = reflexive variants tests.1 each.1 x

-- the fields of a tag that is not universal
abbrev Fields : Type 0
Fields = Bool × (TagNumber × Unit {0})

-- whether the fields are the same
abbrev same_fields : Fields → Fields → Bool
same_fields x y = beq x.0 y.0 && (x.1.0.0 == y.1.0.0)

-- the fields are the same if the test is true
fields-exact : (x y : Fields) → same_fields x y ≡ true → x ≡ y
fields-exact (c, (m, u)) (d, (n, v)) e =
    let both = parts c d (m.0 == n.0) e in
    let number : m.0 ≡ n.0 = eqb-true m.0 n.0 both.1 in
    ap (λ k. (k, (m, tt))) both.0 ∙ ap (λ (k : ℕ). (d, (record { 0 = k }, tt))) number
  where
    parts : (c d b : Bool) → (beq c d && b) ≡ true → (c ≡ d) × (b ≡ true)
    parts true true b h = (refl, h)
    parts true false b h = absurd (cc)
    parts false true b h = absurd (cc)
    parts false false b h = (refl, h)

-- the test is true for equal fields
fields-same : (x : Fields) → same_fields x x ≡ true
fields-same (c, (m, u)) = both c (m.0 == m.0) (eq-eqb m.0 m.0 refl)
  where
    both : (c b : Bool) → b ≡ true → (beq c c && b) ≡ true
    both true b h = h
    both false b h = h

-- the test at each variant
abbrev tests : Each Bool enum.parts
tests = (λ _ _. true, (λ _ _. true, (λ _ _. true, (λ _ _. true, (λ _ _. true, (λ _ _. true, (λ _ _. true, (λ _ _. true, (λ _ _. true, (λ _ _. true, (λ _ _. true, (λ _ _. true, (λ _ _. true, (λ _ _. true, (λ _ _. true, (λ _ _. true, (λ _ _. true, (λ _ _. true, (λ _ _. true, (λ _ _. true, (λ _ _. true, (λ _ _. true, (same_fields, (same_fields, (same_fields, tt)))))))))))))))))))))))))

-- tags are the same if `==` is true for them
tag-from-eq : (t u : Tag) → ghosts.eq t u ≡ true → t ≡ u
unfolding Exact
tag-from-eq t u e = values_one enum t u (exact enum.parts tests (λ _ _ _. refl, (λ _ _ _. refl, (λ _ _ _. refl, (λ _ _ _. refl, (λ _ _ _. refl, (λ _ _ _. refl, (λ _ _ _. refl, (λ _ _ _. refl, (λ _ _ _. refl, (λ _ _ _. refl, (λ _ _ _. refl, (λ _ _ _. refl, (λ _ _ _. refl, (λ _ _ _. refl, (λ _ _ _. refl, (λ _ _ _. refl, (λ _ _ _. refl, (λ _ _ _. refl, (λ _ _ _. refl, (λ _ _ _. refl, (λ _ _ _. refl, (λ _ _ _. refl, (fields-exact, (fields-exact, (fields-exact, tt))))))))))))))))))))))))) (enum.as_values t) (enum.as_values u) e)

-- `==` is true exactly for equal tags
pub tag_eq-decides : (t u : Tag) → Decides (ghosts.eq t u) (t ≡ u)
unfolding Reflexive
tag_eq-decides t u = (tag-from-eq t u, λ e. let P : Tag → Type 0 = λ x. ghosts.eq t x ≡ true in subst P e (reflexive enum.parts tests (λ _. refl, (λ _. refl, (λ _. refl, (λ _. refl, (λ _. refl, (λ _. refl, (λ _. refl, (λ _. refl, (λ _. refl, (λ _. refl, (λ _. refl, (λ _. refl, (λ _. refl, (λ _. refl, (λ _. refl, (λ _. refl, (λ _. refl, (λ _. refl, (λ _. refl, (λ _. refl, (λ _. refl, (λ _. refl, (fields-same, (fields-same, (fields-same, tt))))))))))))))))))))))))) (enum.as_values t)))

-- `==` agrees with the order of the identifier octets
pub tag_eq-identifier : (t u : Tag) → ghosts.eq t u ≡ is_eq (lex (identifier t) (identifier u))
tag_eq-identifier t u = same_from_decides (ghosts.eq t u) (is_eq (lex (identifier t) (identifier u))) (tag_eq-decides t u) (identifier_decides t u)

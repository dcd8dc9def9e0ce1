-- Tags of two types are those of one or of the other.
use Rattle.std.proofs.Common.{◌≡◌, List, [], ◌∷◌, ◌++◌, Bool, true, false, ◌||◌, ◌&&◌, Option, Some, None, ◌==◌, ℕ, refl, sym, ap, ap₂, ◌∙◌, subst, eq-eqb}
use Rattle.std.proofs.lemmas.Bool.{or_right, and_from, and_parts, eqb-true}
use Rattle.der_tlv.specs.declared.tag.Tag.{Tag}
use Rattle.der_tlv.specs.TagParts.{class_of, number_of}
use Rattle.der_tlv.specs.TagMatching.{has_number}
use Rattle.der_tlv.specs.Identifier.{same_identifier, class_index}
use Rattle.der_tlv.specs.HeaderLaws.{same_identifier-true}
use Rattle.der_elem.specs.KnownTags.{is_one_of, may_be, known_of_both}

left_of : (p q r : Bool) → (q ≡ true → r ≡ true) → (p || q) ≡ true → (p || r) ≡ true
left_of true q r f e = refl
left_of false q r f e = f e

one_of_left : (tags others : List Tag) (t : Tag) → is_one_of tags t ≡ true → is_one_of (tags ++ others) t ≡ true
one_of_left [] others t e = absurd (cc)
one_of_left (u ∷ tags) others t e = left_of (has_number (class_of u) (number_of u) t) (is_one_of tags t) (is_one_of (tags ++ others) t) (one_of_left tags others t) e

one_of_right : (tags others : List Tag) (t : Tag) → is_one_of others t ≡ true → is_one_of (tags ++ others) t ≡ true
one_of_right [] others t e = e
one_of_right (u ∷ tags) others t e = or_right (has_number (class_of u) (number_of u) t) (is_one_of (tags ++ others) t) (one_of_right tags others t e)

own_number : (u : Tag) → has_number (class_of u) (number_of u) u ≡ true
own_number u = and_from (class_index (class_of u) == class_index (class_of u)) (number_of u == number_of u) (eq-eqb (class_index (class_of u)) (class_index (class_of u)) refl) (eq-eqb (number_of u) (number_of u) refl)

-- the one tag of a type is a known tag
pub own_is_known : (u t : Tag) → same_identifier t u ≡ true → may_be (Some (u ∷ [])) t ≡ true
own_is_known u t e = subst (λ x. may_be (Some (u ∷ [])) x ≡ true) (sym (same_identifier-true t u e)) (ap (λ a. a || false) (own_number u))

pub known_left : (known others : Option (List Tag)) (t : Tag) → may_be known t ≡ true → may_be (known_of_both known others) t ≡ true
known_left None others t e = refl
known_left (Some tags) None t e = refl
known_left (Some tags) (Some others) t e = one_of_left tags others t e

pub known_right : (known others : Option (List Tag)) (t : Tag) → may_be others t ≡ true → may_be (known_of_both known others) t ≡ true
known_right None others t e = refl
known_right (Some tags) None t e = refl
known_right (Some tags) (Some others) t e = one_of_right tags others t e

-- a tag of either type is one of the known tags of the two types
pub known_either : (known others : Option (List Tag)) (p q : Tag → Bool) → ((t : Tag) → p t ≡ true → may_be known t ≡ true) → ((t : Tag) → q t ≡ true → may_be others t ≡ true) → (t : Tag) → (p t || q t) ≡ true → may_be (known_of_both known others) t ≡ true
known_either known others p q f g t e = at (p t) refl
  where
    at : (b : Bool) → p t ≡ b → may_be (known_of_both known others) t ≡ true
    at true h = known_left known others t (f t h)
    at false h = known_right known others t (g t (ap (λ b. b || q t) (sym h) ∙ e))

-- a tag is one of these if another tag with its class and number is
one_of_alike : (tags : List Tag) (t u : Tag) → class_index (class_of t) ≡ class_index (class_of u) → number_of t ≡ number_of u → is_one_of tags t ≡ is_one_of tags u
one_of_alike [] t u c n = refl
one_of_alike (v ∷ tags) t u c n =
    ap₂ (λ a b. a || b) (ap₂ (λ (i k : ℕ). (i == class_index (class_of v)) && (k == number_of v)) c n) (one_of_alike tags t u c n)

pub known_alike : (known : Option (List Tag)) (t u : Tag) → has_number (class_of u) (number_of u) t ≡ true → may_be known t ≡ may_be known u
known_alike None t u h = refl
known_alike (Some tags) t u h =
    let parts = and_parts (class_index (class_of t) == class_index (class_of u)) (number_of t == number_of u) h in
    one_of_alike tags t u (eqb-true (class_index (class_of t)) (class_index (class_of u)) parts.0) (eqb-true (number_of t) (number_of u) parts.1)

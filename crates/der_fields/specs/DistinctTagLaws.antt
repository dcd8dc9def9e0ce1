-- If the tags of fields are distinct, each field is distinguished from what follows it.
use Rattle.std.proofs.Common.{◌≡◌, List, [], ◌∷◌, Bool, true, false, ◌||◌, not, Option, Some, None, refl, sym, ◌∙◌, subst}
use Rattle.std.proofs.lemmas.Bool.{and_parts, not-true, both_ways, false_from_ne_true}
use Rattle.der_tlv.specs.declared.tag.Tag.{Tag}
use Rattle.der_tlv.specs.TagParts.{class_of, number_of}
use Rattle.der_tlv.specs.TagMatching.{has_number}
use Rattle.der_elem.specs.FirstTags.{HasFirstTag}
use Rattle.der_elem.specs.KnownTags.{is_one_of, may_be}
use Rattle.der_elem.specs.KnownTagLaws.{known_left, known_right, known_alike}
use Rattle.der_fields.specs.FieldLists.{Distinguished, first_tag_or_next}
use Rattle.der_fields.specs.declared.one_of.OneOf.{OneOf}
use Rattle.der_fields.specs.declared.one_of.OneOf.TheVariants.{First, Other}
use Rattle.der_fields.specs.Alternatives.{TagIs, AskedOfOne, ReadableOne, ComparableOne, AskedOfBoth}
use Rattle.der_fields.specs.DistinctTags.{none_may_be, are_distinct, first_known, is_distinguished}

-- a tag that follows is none of the known ones
not_known : (known : Option (List Tag)) (following : List Tag) (t : Tag) → none_may_be known following ≡ true → is_one_of following t ≡ true → may_be known t ≡ false
not_known known [] t e f = absurd (cc)
not_known known (u ∷ following) t e f =
    let parts = and_parts (not (may_be known u)) (none_may_be known following) e in
    of_either (has_number (class_of u) (number_of u) t) (is_one_of following t)
    (λ h. known_alike known t u h ∙ not-true (may_be known u) parts.0)
    (not_known known following t parts.1) f
  where
    of_either : (p q : Bool) → (p ≡ true → may_be known t ≡ false) → (q ≡ true → may_be known t ≡ false) → (p || q) ≡ true → may_be known t ≡ false
    of_either true q g h e = g refl
    of_either false q g h e = h e

distinct_tag : (known following : Option (List Tag)) (t : Tag) → are_distinct known following ≡ true → may_be following t ≡ true → may_be known t ≡ false
distinct_tag known None t e f = absurd (cc)
distinct_tag known (Some following) t e f = not_known known following t e f

not_none : (next : Option Tag) → HasFirstTag next → next ≡ None → ⊥
not_none next present e = let is = present.is_tag in absurd (cc)

module _ (tags : Tag → Bool) (known following : Option (List Tag)) (are_known : (t : Tag) → tags t ≡ true → may_be known t ≡ true) where
  -- a field is distinguished from the fields after it, whatever its value
  pub field_distinguished : (may_be_absent : Bool) (first_tag next : Option Tag) → (may_be_absent ≡ false → HasFirstTag first_tag) → ((t : Tag) → next ≡ Some t → may_be following t ≡ true) → is_distinguished may_be_absent known following ≡ true → Distinguished tags first_tag next
  field_distinguished may_be_absent (Some t) next there follows e = tt
  field_distinguished may_be_absent None None there follows e = tt
  field_distinguished false None (Some t) there follows e = absurd (not_none None (there refl) refl)
  field_distinguished true None (Some t) there follows e =
      false_from_ne_true (tags t) (λ h. both_ways _ (distinct_tag known following t e (follows t refl)) (are_known t h))

  -- the tag that a field and the fields after it begin with is known
  pub first_is_known : (may_be_absent : Bool) (first_tag next : Option Tag) → ((t : Tag) → first_tag ≡ Some t → tags t ≡ true) → (may_be_absent ≡ false → HasFirstTag first_tag) → ((t : Tag) → next ≡ Some t → may_be following t ≡ true) → (t : Tag) → first_tag_or_next first_tag next ≡ Some t → may_be (first_known may_be_absent known following) t ≡ true
  first_is_known true (Some u) next own there follows t e = known_left known following t (are_known t (own t e))
  first_is_known true None next own there follows t e = known_right known following t (follows t e)
  first_is_known false (Some u) next own there follows t e = are_known t (own t e)
  first_is_known false None next own there follows t e = absurd (not_none None (there refl) refl)

tag_is_one : (tags : Tag → Bool) (first_tag : Option Tag) (own : Tag) → first_tag ≡ Some own → tags own ≡ true → TagIs tags true first_tag
tag_is_one tags first_tag own e h = subst (TagIs tags true) (sym e) h

tag_is_none : (tags : Tag → Bool) (first_tag : Option Tag) (own : Tag) → first_tag ≡ Some own → tags own ≡ false → TagIs tags false first_tag
tag_is_none tags first_tag own e h = subst (TagIs tags false) (sym e) h

-- if the tags of two alternatives are distinct, the tag of each value selects its alternative
module _ {A B : Type 0} (tags : Tag → Bool) (tags' : Tag → Bool) (known known' : Option (List Tag)) (tag_of : A → Tag) (tag_of' : B → Tag) (first_tag : A → Option Tag) (first_tag' : B → Option Tag) (first_tag_is : (v : A) → first_tag v ≡ Some (tag_of v)) (first_tag_is' : (w : B) → first_tag' w ≡ Some (tag_of' w)) (own : (v : A) → tags (tag_of v) ≡ true) (own' : (w : B) → tags' (tag_of' w) ≡ true) (are_known : (t : Tag) → tags t ≡ true → may_be known t ≡ true) (are_known' : (t : Tag) → tags' t ≡ true → may_be known' t ≡ true) (distinct : are_distinct known known' ≡ true) where
  first_distinguished : (v : A) → TagIs tags true (first_tag v)
  first_distinguished v = tag_is_one tags (first_tag v) (tag_of v) (first_tag_is v) (own v)

  other_distinguished : (w : B) → TagIs tags false (first_tag' w)
  other_distinguished w =
      let other = distinct_tag known known' (tag_of' w) distinct (are_known' (tag_of' w) (own' w)) in
      tag_is_none tags (first_tag' w) (tag_of' w) (first_tag_is' w) (false_from_ne_true (tags (tag_of' w)) (λ h. both_ways _ other (are_known (tag_of' w) h)))

  pub readable_distinguished : (readable : A → Type 0) (readable' : B → Type 0) (v : OneOf A B) → AskedOfOne readable readable' v → ReadableOne tags first_tag first_tag' readable readable' v
  readable_distinguished readable readable' (First v) r = (r, first_distinguished v)
  readable_distinguished readable readable' (Other w) r = (r, other_distinguished w)

  pub comparable_distinguished : (comparable : A → A → Type 0) (comparable' : B → B → Type 0) (v x : OneOf A B) → AskedOfBoth comparable comparable' v x → ComparableOne tags first_tag first_tag' comparable comparable' v x
  comparable_distinguished comparable comparable' (First v) (First x) c = c
  comparable_distinguished comparable comparable' (Other w) (Other y) c = c
  comparable_distinguished comparable comparable' (First v) (Other w) c = (first_distinguished v, other_distinguished w)
  comparable_distinguished comparable comparable' (Other w) (First v) c = (first_distinguished v, other_distinguished w)

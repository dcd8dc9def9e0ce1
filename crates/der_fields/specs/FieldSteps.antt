-- Properties of a list of fields, from those of its first field and of the list after it, so that a long list takes one step.
use Rattle.std.proofs.Common.{◌≡◌, List, Bool, true, false, ◌&&◌, Option, Some, IsTrue, ◌↔◌}
use Rattle.std.proofs.lemmas.Bool.{and_parts, and_from}
use Rattle.der_tlv.specs.declared.tag.Tag.{Tag}
use Rattle.der_tlv.specs.OctetLaws.{SameBeginning}
use Rattle.der_elem.specs.declared.form.Form as form
use Rattle.der_elem.specs.FirstTags.{HasFirstTag, SamePresence, Starts}
use Rattle.der_elem.specs.KnownTags.{may_be}
use Rattle.der_fields.specs.declared.field.Field.{Field}
use Rattle.der_fields.specs.CopyingLaws.{copy_both, copy_comparable_both, copy_re_read_both}
use Rattle.der_fields.specs.DistinctTags.{first_known, is_distinguished}
use Rattle.der_fields.specs.DistinctTagLaws.{field_distinguished, first_is_known}
use Rattle.der_fields.specs.ListMakers.{field_list}
use Rattle.der_fields.specs.FieldLists.{Distinguished}
use Rattle.der_fields.specs.FieldsFormat.{FieldsFormat}
use Rattle.der_fields.specs.DistinguishingLaws.{starts_both, distinguished, eq_both}

-- one condition for the first field, and one for the fields after it
abbrev pub each : {T U : Type 0} → (T → Type 0) → (U → Type 0) → Field T U → Type 0
each one others v = one v.first × others v.rest

-- one condition for two first fields, and one for the fields after them
abbrev pub both : {T U : Type 0} → (T → T → Type 0) → (U → U → Type 0) → Field T U → Field T U → Type 0
both one others v w = one v.first w.first × others v.rest w.rest

-- whether two values have equal fields
abbrev pub equal_fields : {T U : Type 0} → (T → T → Bool) → (U → U → Bool) → Field T U → Field T U → Bool
equal_fields one others v w = one v.first w.first && others v.rest w.rest

-- the tags that a list may begin with, `None` if any tag may, and whether its fields are distinguished from what follows them
pub record ListTags : Type 0 where
  pub first : Option (List Tag)
  pub are_distinct : Bool

-- the tags of a list, from its two ghosts
abbrev pub list_tags : Option (List Tag) → Bool → ListTags
list_tags first are_distinct = record { first = first; are_distinct = are_distinct }

-- with a field before it
abbrev pub tags_after : Bool → Option (List Tag) → ListTags → ListTags
tags_after may_be_absent known others = record {
  first = first_known may_be_absent known others.first;
  are_distinct = is_distinguished may_be_absent known others.first && others.are_distinct;
}

-- the octets of the fields start with the list's first tag
pub record ListStarts {T : Type 0} (G : FieldsFormat T) : Type 0 where
  pub starts : (v : T) → Starts (G.first_tag v) (G.octets.contents v)

-- fields are equal exactly if their octets are
pub record ListEquality {T : Type 0} (G : FieldsFormat T) (eq : T → T → Bool) : Type 0 where
  pub starts : ListStarts G
  pub equal : (v w : T) → G.octets.comparable v w → IsTrue (eq v w) ↔ (G.octets.contents v ≡ G.octets.contents w)

-- a copy of fields has the properties of the fields
pub record ListCopies {T : Type 0} (G : FieldsFormat T) (are_copies : T → T → Type 0) : Type 0 where
  pub starts : ListStarts G
  pub joined : (v w : T) → are_copies v w → G.octets.contents w ≡ G.octets.contents v
  pub comparable : (v w x : T) → are_copies v w → G.octets.comparable v x → G.octets.comparable w x
  pub re_read : (v w : T) → are_copies v w → G.octets.re_reads w ≡ G.octets.re_reads v

-- a copy of fields is equal to its source
pub record ListEqualCopies {T : Type 0} (are_copies : T → T → Type 0) (eq : T → T → Bool) : Type 0 where
  pub equal : (v w : T) → are_copies v w → IsTrue (eq v w)

-- fields with distinct tags are distinguished
pub record ListDistinct {T : Type 0} (G : FieldsFormat T) (tags : ListTags) (each_readable : T → Type 0) (each_comparable : T → T → Type 0) : Type 0 where
  pub known : (v : T) (t : Tag) → G.first_tag v ≡ Some t → may_be tags.first t ≡ true
  pub readable : tags.are_distinct ≡ true → (v : T) → each_readable v → G.octets.readable v
  pub comparable : tags.are_distinct ≡ true → (v w : T) → each_comparable v w → G.octets.comparable v w

-- the list after the last field of a step
module _ {T : Type 0} (G : FieldsFormat T) (starts : (v : T) → Starts (G.first_tag v) (G.octets.contents v)) where
  pub rest_starts : ListStarts G
  rest_starts = record { starts = starts }

  pub rest_equality : (eq : T → T → Bool) → ((v w : T) → G.octets.comparable v w → IsTrue (eq v w) ↔ (G.octets.contents v ≡ G.octets.contents w)) → ListEquality G eq
  rest_equality eq equal = record { starts = rest_starts; equal = equal }

  pub rest_copies : (are_copies : T → T → Type 0) → ((v w : T) → are_copies v w → G.octets.contents w ≡ G.octets.contents v) → ((v w x : T) → are_copies v w → G.octets.comparable v x → G.octets.comparable w x) → ((v w : T) → are_copies v w → G.octets.re_reads w ≡ G.octets.re_reads v) → ListCopies G are_copies
  rest_copies are_copies joined comparable re_read = record { starts = rest_starts; joined = joined; comparable = comparable; re_read = re_read }

pub rest_distinct : {T : Type 0} (G : FieldsFormat T) (first : Option (List Tag)) (are_distinct : Bool) (each_readable : T → Type 0) (each_comparable : T → T → Type 0) → ((v : T) (t : Tag) → G.first_tag v ≡ Some t → may_be first t ≡ true) → (are_distinct ≡ true → (v : T) → each_readable v → G.octets.readable v) → (are_distinct ≡ true → (v w : T) → each_comparable v w → G.octets.comparable v w) → ListDistinct G (list_tags first are_distinct) each_readable each_comparable
rest_distinct G first are_distinct each_readable each_comparable known readable comparable = record { known = known; readable = readable; comparable = comparable }

pub rest_equal_copies : {T : Type 0} (are_copies : T → T → Type 0) (eq : T → T → Bool) → ((v w : T) → are_copies v w → IsTrue (eq v w)) → ListEqualCopies are_copies eq
rest_equal_copies are_copies eq equal = record { equal = equal }

pub equal_copies_step : {T U : Type 0} {are_copies : U → U → Type 0} {eq' : U → U → Bool} (is_copy : T → T → Type 0) (eq : T → T → Bool) → ((v w : T) → is_copy v w → IsTrue (eq v w)) → ListEqualCopies are_copies eq' → ListEqualCopies (both is_copy are_copies) (equal_fields eq eq')
equal_copies_step {eq' = eq'} is_copy eq copy_is_equal rest = record { equal = λ v w c. and_from (eq v.first w.first) (eq' v.rest w.rest) (copy_is_equal v.first w.first c.0) (rest.equal v.rest w.rest c.1) }

-- a field before a list
module _ {T U : Type 0} (F : form.Ghosts T) {G : FieldsFormat U} where
  pub starts_step : ((v : T) → Starts (F.first_tag_of v) (F.encoding v)) → ListStarts G → ListStarts (field_list F G)
  starts_step starts rest = record { starts = λ v. starts_both (F.first_tag_of v.first) (G.first_tag v.rest) (F.encoding v.first) (G.octets.contents v.rest) (starts v.first) (rest.starts v.rest) }

  pub equality_step : {eq' : U → U → Bool} (eq : T → T → Bool) → ((v w : T) → F.comparable v w → IsTrue (eq v w) ↔ (F.encoding v ≡ F.encoding w)) → ((v : T) → Starts (F.first_tag_of v) (F.encoding v)) → ((v : T) (t : Tag) → F.first_tag_of v ≡ Some t → F.tags t ≡ true) → ((v w : T) → SamePresence (F.first_tag_of v) (F.first_tag_of w) → SameBeginning (F.encoding v) (F.encoding w)) → ListEquality G eq' → ListEquality (field_list F G) (equal_fields eq eq')
  equality_step {eq'} eq encoding_eq starts own_first_tag same_beginning rest = record {
    starts = starts_step starts rest.starts;
    equal = λ v w one. eq_both (eq v.first w.first) (eq' v.rest w.rest) (F.encoding v.first) (F.encoding w.first) (G.octets.contents v.rest) (G.octets.contents w.rest) (encoding_eq v.first w.first one.0) (rest.equal v.rest w.rest one.1) (distinguished F.tags (F.first_tag_of v.first) (F.first_tag_of w.first) (G.first_tag v.rest) (G.first_tag w.rest) (F.encoding v.first) (F.encoding w.first) (G.octets.contents v.rest) (G.octets.contents w.rest) (own_first_tag v.first) (own_first_tag w.first) (starts v.first) (starts w.first) (rest.starts.starts v.rest) (rest.starts.starts w.rest) (same_beginning v.first w.first) one.2 one.3);
  }

  pub copies_step : {are_copies : U → U → Type 0} (is_copy : T → T → Type 0) → ((v : T) → Starts (F.first_tag_of v) (F.encoding v)) → ((v w : T) → is_copy v w → F.encoding w ≡ F.encoding v) → ((v w x : T) → is_copy v w → F.comparable v x → F.comparable w x) → ((v w : T) → is_copy v w → F.re_reads w ≡ F.re_reads v) → ListCopies G are_copies → ListCopies (field_list F G) (both is_copy are_copies)
  copies_step is_copy starts copy_encoding copy_comparable copy_re_reads rest = record {
    starts = starts_step starts rest.starts;
    joined = λ v w c. copy_both (F.encoding v.first) (F.encoding w.first) (G.octets.contents v.rest) (G.octets.contents w.rest) (copy_encoding v.first w.first c.0) (rest.joined v.rest w.rest c.1);
    comparable = λ v w x c one. (
      copy_comparable v.first w.first x.first c.0 one.0,
      rest.comparable v.rest w.rest x.rest c.1 one.1,
      copy_comparable_both F.tags (F.first_tag_of v.first) (F.first_tag_of w.first) (G.first_tag v.rest) (G.first_tag w.rest) (F.encoding v.first) (F.encoding w.first) (G.octets.contents v.rest) (G.octets.contents w.rest) (starts v.first) (starts w.first) (rest.starts.starts v.rest) (rest.starts.starts w.rest) (copy_encoding v.first w.first c.0) (rest.joined v.rest w.rest c.1) one.2,
      one.3,
    );
    re_read = λ v w c. copy_re_read_both (copy_re_reads v.first w.first c.0) (rest.re_read v.rest w.rest c.1);
  }

  module _ {tags : ListTags} {each_readable : U → Type 0} {each_comparable : U → U → Type 0} (known : Option (List Tag)) (may_be_absent : Bool) (own_first_tag : (v : T) (t : Tag) → F.first_tag_of v ≡ Some t → F.tags t ≡ true) (are_known : (t : Tag) → F.tags t ≡ true → may_be known t ≡ true) (is_there : may_be_absent ≡ false → (v : T) → HasFirstTag (F.first_tag_of v)) (rest : ListDistinct G tags each_readable each_comparable) where
    told_of : is_distinguished may_be_absent known tags.first ≡ true → (v : Field T U) → Distinguished F.tags (F.first_tag_of v.first) (G.first_tag v.rest)
    told_of e v = field_distinguished F.tags known tags.first are_known may_be_absent (F.first_tag_of v.first) (G.first_tag v.rest) (λ e. is_there e v.first) (rest.known v.rest) e

    pub distinct_step : ListDistinct (field_list F G) (tags_after may_be_absent known tags) (each F.readable each_readable) (both F.comparable each_comparable)
    distinct_step = record {
      known = λ v. first_is_known F.tags known tags.first are_known may_be_absent (F.first_tag_of v.first) (G.first_tag v.rest) (own_first_tag v.first) (λ e. is_there e v.first) (rest.known v.rest);
      readable = λ e v r. let parts = and_parts (is_distinguished may_be_absent known tags.first) tags.are_distinct e in (r.0, rest.readable parts.1 v.rest r.1, told_of parts.0 v);
      comparable = λ e v w c. let parts = and_parts (is_distinguished may_be_absent known tags.first) tags.are_distinct e in (c.0, rest.comparable parts.1 v.rest w.rest c.1, told_of parts.0 v, told_of parts.0 w);
    }

-- Equality of values by their octets, as one member of a trait: a struct over a list of fields has one line for each field.
use Rattle.std.specs.Option.{option_eq}
use Rattle.std.proofs.Common.{◌≡◌, ℕ, List, [], ◌++◌, Bool, true, false, ◌||◌, Option, Some, None, refl, sym, subst, IsTrue, ◌↔◌}
use Rattle.der_tlv.specs.declared.tag.Tag.{Tag}
use Rattle.der_tlv.specs.HeaderOctets.{tlv}
use Rattle.der_tlv.specs.Identifier.{same_identifier}
use Rattle.der_elem.specs.declared.form.Form as form
use Rattle.der_elem.specs.ContentsFormat.{ContentsFormat}
use Rattle.der_elem.specs.FirstTags.{Starts}
use Rattle.der_elem.specs.FirstTagLaws.{beginning_tagged, beginning_option, starts_tagged, starts_option, own_first_tag_tagged, own_first_tag_option}
use Rattle.der_elem.specs.Options.{first_tag_option, encoding_option, comparable_option}
use Rattle.der_elem.specs.OptionLaws.{encoding_eq_option}
use Rattle.der_fields.specs.declared.field.Field.{Field}
use Rattle.der_fields.specs.declared.end.End.{End}
use Rattle.der_fields.specs.declared.explicit.ExplicitIn.{ExplicitIn}
use Rattle.der_fields.specs.declared.implicit.ImplicitIn.{ImplicitIn}
use Rattle.der_fields.specs.declared.one_of.OneOf.{OneOf}
use Rattle.der_fields.specs.declared.one_of.OneOf.TheVariants.{First, Other}
use Rattle.der_fields.specs.declared.with_default.WithDefault.{WithDefault}
use Rattle.der_fields.specs.Alternatives.{TagIs, of_one, ComparableOne}
use Rattle.der_fields.specs.AlternativeLaws.{encoding_is_one, own_tag_one, first_tag_is_one, tags_differ}
use Rattle.der_fields.specs.Defaults.{is_default, octets_unless, first_tag_unless}
use Rattle.der_fields.specs.DefaultLaws.{own_first_tag_default, starts_default, beginning_default, encoding_eq_default}
use Rattle.der_fields.specs.DistinguishingLaws.{starts_both, distinguished, eq_both, same_first_tag}
use Rattle.der_fields.specs.FieldLists.{Distinguished, first_tag_or_next}
use Rattle.der_fields.specs.FieldSteps.{equal_fields}
use Rattle.der_modules.specs.MemberLaws.{Equal, HasFirst, HasTag, one_tag, one_tag_equality}

-- a type with one tag: comparable values are equal if and only if their contents octets are
pub record MemberOf (T : Type 0) : Type 1 where
  pub tag : Tag
  pub contents : T → List ℕ
  pub comparable : T → T → Type 0
  pub eq : T → T → Bool
  pub equal : Equal comparable eq contents

-- a type whose values determine their tags: comparable values are equal if and only if their encodings are
pub record ChoiceOf (T : Type 0) : Type 1 where
  pub tags : Tag → Bool
  pub first_tag_of : T → Option Tag
  pub encoding : T → List ℕ
  pub tag_of : T → Tag
  pub contents : T → List ℕ
  pub comparable : T → T → Type 0
  pub eq : T → T → Bool
  pub has_tag : HasTag tags first_tag_of encoding tag_of contents
  pub equal : Equal comparable eq encoding

-- a field, which may have no octets
pub record PartOf (T : Type 0) : Type 1 where
  pub tags : Tag → Bool
  pub first_tag_of : T → Option Tag
  pub encoding : T → List ℕ
  pub comparable : T → T → Type 0
  pub eq : T → T → Bool
  pub first : HasFirst tags first_tag_of encoding
  pub equal : Equal comparable eq encoding

-- a list of fields
pub record MembersOf (T : Type 0) : Type 1 where
  pub first_tag : T → Option Tag
  pub contents : T → List ℕ
  pub comparable : T → T → Type 0
  pub eq : T → T → Bool
  pub starts : (v : T) → Starts (first_tag v) (contents v)
  pub equal : Equal comparable eq contents

-- ---- types with one tag

-- a value of the library
abbrev pub value_member : {T : Type 0} → Tag → (V : ContentsFormat T) → (eq : T → T → Bool) → Equal V.comparable eq V.contents → MemberOf T
value_member t V eq equal = record { tag = t; contents = V.contents; comparable = V.comparable; eq = eq; equal = equal }

-- a struct that is viewed as a list of fields
abbrev pub struct_member : {S T : Type 0} → Tag → (S → T) → MembersOf T → MemberOf S
struct_member t view G = record {
  tag = t;
  contents = λ v. G.contents (view v);
  comparable = λ v w. G.comparable (view v) (view w);
  eq = λ v w. G.eq (view v) (view w);
  equal = λ v w. G.equal (view v) (view w);
}

-- a struct with its own tag that is viewed as the value that it holds
abbrev pub seen_member : {S T : Type 0} → Tag → (S → T) → MemberOf T → MemberOf S
seen_member t view m = record {
  tag = t;
  contents = λ v. m.contents (view v);
  comparable = λ v w. m.comparable (view v) (view w);
  eq = λ v w. m.eq (view v) (view w);
  equal = λ v w. m.equal (view v) (view w);
}

-- a value with another tag in place of its own
abbrev pub implicit_member : {T : Type 0} {class number : ℕ} → Tag → MemberOf T → MemberOf (ImplicitIn T class number)
implicit_member t m = seen_member t (λ v. v.value) m

-- ---- whole encodings

abbrev pub whole : {T : Type 0} → MemberOf T → ChoiceOf T
whole m = record {
  tags = λ u. same_identifier u m.tag;
  first_tag_of = λ v. Some m.tag;
  encoding = λ v. tlv m.tag (m.contents v);
  tag_of = λ v. m.tag;
  contents = m.contents;
  comparable = m.comparable;
  eq = m.eq;
  has_tag = one_tag m.tag m.contents;
  equal = one_tag_equality m.tag m.contents m.comparable m.eq m.equal;
}

-- a type of the library whose values determine their tags
abbrev pub value_choice : {T : Type 0} (F : form.Ghosts T) {tag_of : T → Tag} {contents : T → List ℕ} (eq : T → T → Bool) → HasTag F.tags F.first_tag_of F.encoding tag_of contents → Equal F.comparable eq F.encoding → ChoiceOf T
value_choice F {tag_of} {contents} eq has_tag equal = record {
  tags = F.tags;
  first_tag_of = F.first_tag_of;
  encoding = F.encoding;
  tag_of = tag_of;
  contents = contents;
  comparable = F.comparable;
  eq = eq;
  has_tag = has_tag;
  equal = equal;
}

-- the alternatives of a CHOICE, two at a time
abbrev pub eq_one : {A B : Type 0} → (A → A → Bool) → (B → B → Bool) → OneOf A B → OneOf A B → Bool
eq_one eq eq' (First v) (First x) = eq v x
eq_one eq eq' (Other w) (Other y) = eq' w y
eq_one eq eq' (First v) (Other y) = false
eq_one eq eq' (Other w) (First x) = false

module _ {A B : Type 0} (F : ChoiceOf A) (G : ChoiceOf B) where
  starts_of_first : (v : A) → Starts (F.first_tag_of v) (F.encoding v)
  starts_of_first v = starts_tagged F.tag_of F.contents F.encoding F.has_tag.encoding_is v (F.first_tag_of v) (F.has_tag.first_tag_is v)

  starts_of_other : (w : B) → Starts (G.first_tag_of w) (G.encoding w)
  starts_of_other w = starts_tagged G.tag_of G.contents G.encoding G.has_tag.encoding_is w (G.first_tag_of w) (G.has_tag.first_tag_is w)

  apart : (v : A) (w : B) → TagIs F.tags true (F.first_tag_of v) → TagIs F.tags false (G.first_tag_of w) → F.encoding v ≡ G.encoding w → ⊥
  apart v w h k e = tags_differ F.tags (F.first_tag_of v) (G.first_tag_of w) h k (same_first_tag (F.first_tag_of v) (G.first_tag_of w) (F.encoding v) (G.encoding w) (starts_of_first v) (starts_of_other w) e)

  pub equal_one : Equal (ComparableOne F.tags F.first_tag_of G.first_tag_of F.comparable G.comparable) (eq_one F.eq G.eq) (of_one F.encoding G.encoding)
  equal_one (First v) (First x) one = F.equal v x one
  equal_one (Other w) (Other y) one = G.equal w y one
  equal_one (First v) (Other w) (h, k) = (λ e. absurd (cc), λ e. absurd (apart v w h k e))
  equal_one (Other w) (First v) (h, k) = (λ e. absurd (cc), λ e. absurd (apart v w h k (sym e)))

  pub tag_of_one : HasTag (λ t. F.tags t || G.tags t) (of_one F.first_tag_of G.first_tag_of) (of_one F.encoding G.encoding) (of_one F.tag_of G.tag_of) (of_one F.contents G.contents)
  tag_of_one = record {
    encoding_is = encoding_is_one F.tag_of G.tag_of F.contents F.encoding G.contents G.encoding F.has_tag.encoding_is G.has_tag.encoding_is;
    own_tag = own_tag_one F.tags G.tags F.tag_of G.tag_of F.has_tag.own_tag G.has_tag.own_tag;
    first_tag_is = first_tag_is_one F.tag_of G.tag_of F.first_tag_of G.first_tag_of F.has_tag.first_tag_is G.has_tag.first_tag_is;
  }

abbrev pub either : {A B : Type 0} → ChoiceOf A → ChoiceOf B → ChoiceOf (OneOf A B)
either F G = record {
  tags = λ t. F.tags t || G.tags t;
  first_tag_of = of_one F.first_tag_of G.first_tag_of;
  encoding = of_one F.encoding G.encoding;
  tag_of = of_one F.tag_of G.tag_of;
  contents = of_one F.contents G.contents;
  comparable = ComparableOne F.tags F.first_tag_of G.first_tag_of F.comparable G.comparable;
  eq = eq_one F.eq G.eq;
  has_tag = tag_of_one F G;
  equal = equal_one F G;
}

-- an enum that is viewed as the tree of its alternatives
abbrev pub seen_choice : {S T : Type 0} (view : S → T) (own : S → S → Bool) (F : ChoiceOf T) → ((v w : S) → own v w ≡ F.eq (view v) (view w)) → ChoiceOf S
seen_choice view own F same = record {
  tags = F.tags;
  first_tag_of = λ v. F.first_tag_of (view v);
  encoding = λ v. F.encoding (view v);
  tag_of = λ v. F.tag_of (view v);
  contents = λ v. F.contents (view v);
  comparable = λ v w. F.comparable (view v) (view w);
  eq = own;
  has_tag = record { encoding_is = λ v. F.has_tag.encoding_is (view v); own_tag = λ v. F.has_tag.own_tag (view v); first_tag_is = λ v. F.has_tag.first_tag_is (view v) };
  equal = λ v w one. subst (λ b. IsTrue b ↔ (F.encoding (view v) ≡ F.encoding (view w))) (sym (same v w)) (F.equal (view v) (view w) one);
}

-- ---- fields

module _ {T : Type 0} (F : ChoiceOf T) where
  pub first_of : HasFirst F.tags F.first_tag_of F.encoding
  first_of = record {
    starts = λ v. starts_tagged F.tag_of F.contents F.encoding F.has_tag.encoding_is v (F.first_tag_of v) (F.has_tag.first_tag_is v);
    own_first_tag = λ v. own_first_tag_tagged F.tags (F.tag_of v) (F.has_tag.own_tag v) (F.first_tag_of v) (F.has_tag.first_tag_is v);
    same_beginning = λ v w p. beginning_tagged F.tag_of F.contents F.encoding F.has_tag.encoding_is v w;
  }

  pub first_of_option : HasFirst F.tags (first_tag_option F.first_tag_of) (encoding_option F.encoding)
  first_of_option = record {
    starts = starts_option F.tag_of F.contents F.encoding F.has_tag.encoding_is F.first_tag_of F.has_tag.first_tag_is;
    own_first_tag = own_first_tag_option F.tags F.tag_of F.has_tag.own_tag F.first_tag_of F.has_tag.first_tag_is;
    same_beginning = beginning_option F.tag_of F.contents F.encoding F.has_tag.encoding_is F.first_tag_of F.has_tag.first_tag_is;
  }

  pub equal_of_option : Equal (comparable_option F.comparable) (option_eq F.eq) (encoding_option F.encoding)
  equal_of_option = encoding_eq_option F.tag_of F.contents F.encoding F.has_tag.encoding_is F.comparable F.eq F.equal

  module _ {W : Type 0} (value_of : W → T) (default : List ℕ) where
    pub first_of_default : HasFirst F.tags (λ v. first_tag_unless (is_default default (F.encoding (value_of v))) (F.first_tag_of (value_of v))) (λ v. octets_unless (is_default default (F.encoding (value_of v))) (F.encoding (value_of v)))
    first_of_default = record {
      starts = λ v. starts_default F.tag_of F.contents F.encoding F.has_tag.encoding_is (value_of v) (F.first_tag_of (value_of v)) (F.has_tag.first_tag_is (value_of v)) (is_default default (F.encoding (value_of v)));
      own_first_tag = λ v. own_first_tag_default F.tags (F.tag_of (value_of v)) (F.has_tag.own_tag (value_of v)) (F.first_tag_of (value_of v)) (F.has_tag.first_tag_is (value_of v)) (is_default default (F.encoding (value_of v)));
      same_beginning = λ v w. beginning_default F.tag_of F.contents F.encoding F.has_tag.encoding_is F.first_tag_of F.has_tag.first_tag_is (is_default default (F.encoding (value_of v))) (is_default default (F.encoding (value_of w))) (value_of v) (value_of w);
    }

    pub equal_of_default : Equal (λ v w. F.comparable (value_of v) (value_of w)) (λ v w. F.eq (value_of v) (value_of w)) (λ v. octets_unless (is_default default (F.encoding (value_of v))) (F.encoding (value_of v)))
    equal_of_default v w = encoding_eq_default F.tag_of F.contents F.encoding F.has_tag.encoding_is F.comparable F.eq F.equal default (value_of v) (value_of w)

-- a field that is always present, one that may be absent, and one with a default
abbrev pub there : {T : Type 0} → ChoiceOf T → PartOf T
there F = record { tags = F.tags; first_tag_of = F.first_tag_of; encoding = F.encoding; comparable = F.comparable; eq = F.eq; first = first_of F; equal = F.equal }

abbrev pub perhaps : {T : Type 0} → ChoiceOf T → PartOf (Option T)
perhaps F = record {
  tags = F.tags;
  first_tag_of = first_tag_option F.first_tag_of;
  encoding = encoding_option F.encoding;
  comparable = comparable_option F.comparable;
  eq = option_eq F.eq;
  first = first_of_option F;
  equal = equal_of_option F;
}

abbrev pub unless : {T D : Type 0} → List ℕ → ChoiceOf T → PartOf (WithDefault T D)
unless default F = record {
  tags = F.tags;
  first_tag_of = λ v. first_tag_unless (is_default default (F.encoding v.value)) (F.first_tag_of v.value);
  encoding = λ v. octets_unless (is_default default (F.encoding v.value)) (F.encoding v.value);
  comparable = λ v w. F.comparable v.value w.value;
  eq = λ v w. F.eq v.value w.value;
  first = first_of_default F (λ v. v.value) default;
  equal = equal_of_default F (λ v. v.value) default;
}

-- ---- a list of fields, from the last

abbrev pub no_fields : MembersOf End
no_fields = record {
  first_tag = λ v. None;
  contents = λ v. [];
  comparable = λ v w. Unit {0};
  eq = λ v w. true;
  starts = λ v. refl;
  equal = λ v w one. (λ h. refl, λ e. refl);
}

abbrev pub and_then : {T U : Type 0} → PartOf T → MembersOf U → MembersOf (Field T U)
and_then F G = record {
  first_tag = λ v. first_tag_or_next (F.first_tag_of v.first) (G.first_tag v.rest);
  contents = λ v. F.encoding v.first ++ G.contents v.rest;
  comparable = λ v w. F.comparable v.first w.first × G.comparable v.rest w.rest × Distinguished F.tags (F.first_tag_of v.first) (G.first_tag v.rest) × Distinguished F.tags (F.first_tag_of w.first) (G.first_tag w.rest);
  eq = equal_fields F.eq G.eq;
  starts = λ v. starts_both (F.first_tag_of v.first) (G.first_tag v.rest) (F.encoding v.first) (G.contents v.rest) (F.first.starts v.first) (G.starts v.rest);
  equal = λ v w one. eq_both (F.eq v.first w.first) (G.eq v.rest w.rest) (F.encoding v.first) (F.encoding w.first) (G.contents v.rest) (G.contents w.rest) (F.equal v.first w.first one.0) (G.equal v.rest w.rest one.1) (distinguished F.tags (F.first_tag_of v.first) (F.first_tag_of w.first) (G.first_tag v.rest) (G.first_tag w.rest) (F.encoding v.first) (F.encoding w.first) (G.contents v.rest) (G.contents w.rest) (F.first.own_first_tag v.first) (F.first.own_first_tag w.first) (F.first.starts v.first) (F.first.starts w.first) (G.starts v.rest) (G.starts w.rest) (F.first.same_beginning v.first w.first) one.2 one.3);
}

abbrev pub field : {T U : Type 0} → MemberOf T → MembersOf U → MembersOf (Field T U)
field m G = and_then (there (whole m)) G

abbrev pub optional_field : {T U : Type 0} → MemberOf T → MembersOf U → MembersOf (Field (Option T) U)
optional_field m G = and_then (perhaps (whole m)) G

abbrev pub default_field : {T D U : Type 0} → List ℕ → MemberOf T → MembersOf U → MembersOf (Field (WithDefault T D) U)
default_field octets m G = and_then (unless octets (whole m)) G

-- a field that is a CHOICE
abbrev pub choice_field : {T U : Type 0} → ChoiceOf T → MembersOf U → MembersOf (Field T U)
choice_field F G = and_then (there F) G

abbrev pub default_choice_field : {T D U : Type 0} → List ℕ → ChoiceOf T → MembersOf U → MembersOf (Field (WithDefault T D) U)
default_choice_field octets F G = and_then (unless octets F) G

abbrev pub optional_choice_field : {T U : Type 0} → ChoiceOf T → MembersOf U → MembersOf (Field (Option T) U)
optional_choice_field F G = and_then (perhaps F) G

-- the fields after those that a list reads in one step
abbrev pub part : {S T : Type 0} → (S → T) → MembersOf T → MembersOf S
part view G = record {
  first_tag = λ v. G.first_tag (view v);
  contents = λ v. G.contents (view v);
  comparable = λ v w. G.comparable (view v) (view w);
  eq = λ v w. G.eq (view v) (view w);
  starts = λ v. G.starts (view v);
  equal = λ v w. G.equal (view v) (view w);
}

-- a value after an explicit tag
abbrev pub explicit_member : {T : Type 0} {class number : ℕ} → Tag → ChoiceOf T → MemberOf (ExplicitIn (Field T End) class number)
explicit_member t F = struct_member t (λ v. v.fields) (choice_field F no_fields)

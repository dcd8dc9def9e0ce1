-- The laws of a type that a module defines, each from the laws of its members: a struct or an enum with no bounds names each law.
use Rattle.std.specs.Option.{option_eq}
use Rattle.std.proofs.Common.{◌≡◌, ℕ, List, Bool, true, Option, Some, refl, sym, ap, ◌∙◌, subst, IsTrue, ◌↔◌}
use Rattle.std.proofs.lemmas.Bool.{and_from}
use Rattle.der_tlv.specs.declared.tag.Tag.{Tag}
use Rattle.der_tlv.specs.OctetLaws.{SameBeginning}
use Rattle.der_tlv.specs.HeaderOctets.{tlv}
use Rattle.der_tlv.specs.HeaderLaws.{same_identifier-same}
use Rattle.der_tlv.specs.Identifier.{same_identifier}
use Rattle.der_elem.specs.declared.form.Form as form
use Rattle.der_elem.specs.FirstTags.{SamePresence, Starts}
use Rattle.der_elem.specs.FirstTagLaws.{starts_tagged}
use Rattle.der_elem.specs.Options.{encoding_option, comparable_option, test_option, is_copy_option}
use Rattle.der_elem.specs.OptionLaws.{copy_encoding_option, copy_comparable_option, copy_re_reads_option, copy_is_equal_option}
use Rattle.der_elem.specs.TaggedLaws.{encoding_eq_tagged}
use Rattle.der_fields.specs.declared.one_of.OneOf.{OneOf}
use Rattle.der_fields.specs.declared.one_of.OneOf.TheVariants.{First, Other}
use Rattle.der_fields.specs.Alternatives.{of_one, ComparableOne, IsCopyOne}
use Rattle.der_fields.specs.AlternativeLaws.{copy_encoding_one, copy_comparable_one, copy_re_reads_one, copy_is_equal_one}
use Rattle.der_fields.specs.Defaults.{is_default, octets_unless, test_unless}
use Rattle.der_fields.specs.FieldsFormat.{FieldsFormat}
use Rattle.der_fields.specs.FieldSteps.{both, equal_fields, ListCopies, copies_step, rest_copies}
use Rattle.der_fields.specs.ListMakers.{end_list, field_list, part_of}

-- comparable values are equal if and only if their octets are
abbrev pub Equal : {T : Type 0} → (T → T → Type 0) → (T → T → Bool) → (T → List ℕ) → Type 0
Equal {T} comparable eq octets = (v w : T) → comparable v w → IsTrue (eq v w) ↔ (octets v ≡ octets w)

-- a copy has the octets of the value, and is equal to it
pub record Copies {T : Type 0} (is_copy : T → T → Type 0) (eq : T → T → Bool) (octets : T → List ℕ) (comparable : T → T → Type 0) (re_reads : T → Bool) : Type 0 where
  pub octets_are : (v w : T) → is_copy v w → octets w ≡ octets v
  pub comparable_are : (v w x : T) → is_copy v w → comparable v x → comparable w x
  pub re_reads_are : (v w : T) → is_copy v w → re_reads w ≡ re_reads v
  pub equal_are : (v w : T) → is_copy v w → IsTrue (eq v w)

-- the laws of copies as one member of a trait, with the terms that they are about
pub record CopiesOf (T : Type 0) : Type 1 where
  pub is_copy : T → T → Type 0
  pub eq : T → T → Bool
  pub octets : T → List ℕ
  pub comparable : T → T → Type 0
  pub re_reads : T → Bool
  pub laws : Copies is_copy eq octets comparable re_reads

abbrev pub copies_of : {T : Type 0} {is_copy : T → T → Type 0} {eq : T → T → Bool} {octets : T → List ℕ} {comparable : T → T → Type 0} {re_reads : T → Bool} → Copies is_copy eq octets comparable re_reads → CopiesOf T
copies_of {T} {is_copy} {eq} {octets} {comparable} {re_reads} laws = record { is_copy = is_copy; eq = eq; octets = octets; comparable = comparable; re_reads = re_reads; laws = laws }

-- each encoding is a tag and contents octets
pub record HasTag {T : Type 0} (tags : Tag → Bool) (first_tag_of : T → Option Tag) (encoding : T → List ℕ) (tag_of : T → Tag) (contents : T → List ℕ) : Type 0 where
  pub encoding_is : (v : T) → encoding v ≡ tlv (tag_of v) (contents v)
  pub own_tag : (v : T) → tags (tag_of v) ≡ true
  pub first_tag_is : (v : T) → first_tag_of v ≡ Some (tag_of v)

-- each encoding starts with its first tag, if it has one
pub record HasFirst {T : Type 0} (tags : Tag → Bool) (first_tag_of : T → Option Tag) (encoding : T → List ℕ) : Type 0 where
  pub starts : (v : T) → Starts (first_tag_of v) (encoding v)
  pub own_first_tag : (v : T) (t : Tag) → first_tag_of v ≡ Some t → tags t ≡ true
  pub same_beginning : (v w : T) → SamePresence (first_tag_of v) (first_tag_of w) → SameBeginning (encoding v) (encoding w)

-- ---- types with one tag

pub one_tag : {T : Type 0} (t : Tag) (contents : T → List ℕ) → HasTag (λ u. same_identifier u t) (λ v. Some t) (λ v. tlv t (contents v)) (λ v. t) contents
one_tag t contents = record { encoding_is = λ v. refl; own_tag = λ v. same_identifier-same t; first_tag_is = λ v. refl }

pub one_tag_equality : {T : Type 0} (t : Tag) (contents : T → List ℕ) (comparable : T → T → Type 0) (eq : T → T → Bool) → Equal comparable eq contents → Equal comparable eq (λ v. tlv t (contents v))
one_tag_equality t contents comparable eq equal = encoding_eq_tagged t contents comparable eq equal

pub one_tag_copies : {T : Type 0} {is_copy : T → T → Type 0} {eq : T → T → Bool} {contents : T → List ℕ} {comparable : T → T → Type 0} {re_reads : T → Bool} (t : Tag) → Copies is_copy eq contents comparable re_reads → Copies is_copy eq (λ v. tlv t (contents v)) comparable re_reads
one_tag_copies t c = record { octets_are = λ v w e. ap (tlv t) (c.octets_are v w e); comparable_are = c.comparable_are; re_reads_are = c.re_reads_are; equal_are = c.equal_are }

-- a type whose values determine their tags
pub own_tags : {T : Type 0} (tags : Tag → Bool) (first_tag_of : T → Option Tag) (encoding : T → List ℕ) (tag_of : T → Tag) (contents : T → List ℕ) → ((v : T) → encoding v ≡ tlv (tag_of v) (contents v)) → ((v : T) → tags (tag_of v) ≡ true) → ((v : T) → first_tag_of v ≡ Some (tag_of v)) → HasTag tags first_tag_of encoding tag_of contents
own_tags tags first_tag_of encoding tag_of contents encoding_is own_tag first_tag_is = record { encoding_is = encoding_is; own_tag = own_tag; first_tag_is = first_tag_is }

-- a copy that is the value
pub same_copies : {T : Type 0} (octets : T → List ℕ) (comparable : T → T → Type 0) (re_reads : T → Bool) (eq : T → T → Bool) → ((v : T) → IsTrue (eq v v)) → Copies (λ v w. w ≡ v) eq octets comparable re_reads
same_copies octets comparable re_reads eq equal = record {
  octets_are = λ v w e. ap octets e;
  comparable_are = λ v w x e f. subst (λ u. comparable u x) (sym e) f;
  re_reads_are = λ v w e. ap re_reads e;
  equal_are = λ v w e. subst (λ u. IsTrue (eq v u)) (sym e) (equal v);
}

-- a struct that is viewed as the value that it holds
pub held_copies : {S T : Type 0} {is_copy : T → T → Type 0} {eq : T → T → Bool} {octets : T → List ℕ} {comparable : T → T → Type 0} {re_reads : T → Bool} (view : S → T) → Copies is_copy eq octets comparable re_reads → Copies (λ v w. is_copy (view v) (view w)) (λ v w. eq (view v) (view w)) (λ v. octets (view v)) (λ v w. comparable (view v) (view w)) (λ v. re_reads (view v))
held_copies view c = record {
  octets_are = λ v w. c.octets_are (view v) (view w);
  comparable_are = λ v w x. c.comparable_are (view v) (view w) (view x);
  re_reads_are = λ v w. c.re_reads_are (view v) (view w);
  equal_are = λ v w. c.equal_are (view v) (view w);
}

-- ---- fields: one that is always present, one that may be absent, one with a default

module _ {T : Type 0} (F : form.Ghosts T) {is_copy : T → T → Type 0} {eq : T → T → Bool} (c : Copies is_copy eq F.encoding F.comparable F.re_reads) where
  pub optional_copies : Copies (is_copy_option is_copy) (option_eq eq) (encoding_option F.encoding) (comparable_option F.comparable) (test_option F.re_reads)
  optional_copies = record {
    octets_are = copy_encoding_option F is_copy c.octets_are;
    comparable_are = copy_comparable_option F is_copy c.comparable_are;
    re_reads_are = copy_re_reads_option F is_copy c.re_reads_are;
    equal_are = copy_is_equal_option is_copy eq c.equal_are;
  }

  pub default_copies : {W : Type 0} (value_of : W → T) (default : List ℕ) → Copies (λ v w. is_copy (value_of v) (value_of w)) (λ v w. eq (value_of v) (value_of w)) (λ v. octets_unless (is_default default (F.encoding (value_of v))) (F.encoding (value_of v))) (λ v w. F.comparable (value_of v) (value_of w)) (λ v. test_unless (is_default default (F.encoding (value_of v))) (F.re_reads (value_of v)))
  default_copies value_of default = record {
    octets_are = λ v w e. ap (λ o. octets_unless (is_default default o) o) (c.octets_are (value_of v) (value_of w) e);
    comparable_are = λ v w x. c.comparable_are (value_of v) (value_of w) (value_of x);
    re_reads_are = λ v w e. ap (λ o. test_unless (is_default default o) (F.re_reads (value_of w))) (c.octets_are (value_of v) (value_of w) e) ∙ ap (test_unless (is_default default (F.encoding (value_of v)))) (c.re_reads_are (value_of v) (value_of w) e);
    equal_are = λ v w. c.equal_are (value_of v) (value_of w);
  }

-- ---- a list of fields, from the last

-- a copy of fields has the octets of the fields, and is equal to them
pub record FieldCopies {T : Type 0} (G : FieldsFormat T) (are_copies : T → T → Type 0) (eq : T → T → Bool) : Type 0 where
  pub list : ListCopies G are_copies
  pub equal : (v w : T) → are_copies v w → IsTrue (eq v w)

pub no_copies : FieldCopies end_list (λ v w. Unit {0}) (λ v w. true)
no_copies = record { list = rest_copies end_list (λ v. refl) (λ v w. Unit {0}) (λ v w c. refl) (λ v w x c one. tt) (λ v w c. refl); equal = λ v w c. refl }

module _ {T U : Type 0} (F : form.Ghosts T) (first : HasFirst F.tags F.first_tag_of F.encoding) {G : FieldsFormat U} where
  pub member_copies : {is_copy : T → T → Type 0} {eq : T → T → Bool} → Copies is_copy eq F.encoding F.comparable F.re_reads → {are_copies : U → U → Type 0} {eq' : U → U → Bool} → FieldCopies G are_copies eq' → FieldCopies (field_list F G) (both is_copy are_copies) (equal_fields eq eq')
  member_copies {is_copy} {eq} c {are_copies} {eq'} rest = record {
    list = copies_step F is_copy first.starts c.octets_are c.comparable_are c.re_reads_are rest.list;
    equal = λ v w e. and_from (eq v.first w.first) (eq' v.rest w.rest) (c.equal_are v.first w.first e.0) (rest.equal v.rest w.rest e.1);
  }

-- the fields after those that a list reads in one step
module _ {S T : Type 0} (view : S → T) {G : FieldsFormat T} where
  pub part_copies : {are_copies : T → T → Type 0} {eq : T → T → Bool} → FieldCopies G are_copies eq → FieldCopies (part_of view G) (λ v w. are_copies (view v) (view w)) (λ v w. eq (view v) (view w))
  part_copies c = record {
    list = record {
      starts = record { starts = λ v. c.list.starts.starts (view v) };
      joined = λ v w. c.list.joined (view v) (view w);
      comparable = λ v w x. c.list.comparable (view v) (view w) (view x);
      re_read = λ v w. c.list.re_read (view v) (view w);
    };
    equal = λ v w. c.equal (view v) (view w);
  }

-- the contents octets of a SEQUENCE are those of its fields
pub listed_copies : {T : Type 0} {G : FieldsFormat T} {are_copies : T → T → Type 0} {eq : T → T → Bool} → FieldCopies G are_copies eq → Copies are_copies eq G.octets.contents G.octets.comparable G.octets.re_reads
listed_copies c = record { octets_are = c.list.joined; comparable_are = c.list.comparable; re_reads_are = c.list.re_read; equal_are = c.equal }

-- ---- the alternatives of a CHOICE, two at a time

starts_of : {T : Type 0} (F : form.Ghosts T) {tag_of : T → Tag} {contents : T → List ℕ} → HasTag F.tags F.first_tag_of F.encoding tag_of contents → (v : T) → Starts (F.first_tag_of v) (F.encoding v)
starts_of F {tag_of} {contents} h v = starts_tagged tag_of contents F.encoding h.encoding_is v (F.first_tag_of v) (h.first_tag_is v)

module _ {A B : Type 0} (F : form.Ghosts A) (G : form.Ghosts B) {tag_of : A → Tag} {tag_of' : B → Tag} {contents : A → List ℕ} {contents' : B → List ℕ} (h : HasTag F.tags F.first_tag_of F.encoding tag_of contents) (k : HasTag G.tags G.first_tag_of G.encoding tag_of' contents') where
  module _ {is_copy : A → A → Type 0} {is_copy' : B → B → Type 0} {eq : A → A → Bool} {eq' : B → B → Bool} (c : Copies is_copy eq F.encoding F.comparable F.re_reads) (d : Copies is_copy' eq' G.encoding G.comparable G.re_reads) where
    pub either_copies : (eq_one : OneOf A B → OneOf A B → Bool) → ((v x : A) → eq_one (First v) (First x) ≡ eq v x) → ((w y : B) → eq_one (Other w) (Other y) ≡ eq' w y) → Copies (IsCopyOne is_copy is_copy') eq_one (of_one F.encoding G.encoding) (ComparableOne F.tags F.first_tag_of G.first_tag_of F.comparable G.comparable) (of_one F.re_reads G.re_reads)
    either_copies eq_one same same' = record {
      octets_are = copy_encoding_one F G is_copy is_copy' c.octets_are d.octets_are;
      comparable_are = copy_comparable_one F G is_copy is_copy' c.octets_are d.octets_are (starts_of F h) (starts_of G k) c.comparable_are d.comparable_are;
      re_reads_are = copy_re_reads_one F G is_copy is_copy' c.octets_are d.octets_are c.re_reads_are d.re_reads_are;
      equal_are = copy_is_equal_one is_copy is_copy' eq_one (λ v x e. subst IsTrue (sym (same v x)) (c.equal_are v x e)) (λ w y e. subst IsTrue (sym (same' w y)) (d.equal_are w y e));
    }

-- an enum that is viewed as the tree of its alternatives
module _ {S T : Type 0} (view : S → T) (own : S → S → Bool) (eq : T → T → Bool) (same : (v w : S) → own v w ≡ eq (view v) (view w)) where
  pub seen_copies : {is_copy : T → T → Type 0} {octets : T → List ℕ} {comparable : T → T → Type 0} {re_reads : T → Bool} → Copies is_copy eq octets comparable re_reads → Copies (λ v w. is_copy (view v) (view w)) own (λ v. octets (view v)) (λ v w. comparable (view v) (view w)) (λ v. re_reads (view v))
  seen_copies c = record {
    octets_are = λ v w. c.octets_are (view v) (view w);
    comparable_are = λ v w x. c.comparable_are (view v) (view w) (view x);
    re_reads_are = λ v w. c.re_reads_are (view v) (view w);
    equal_are = λ v w e. subst IsTrue (sym (same v w)) (c.equal_are (view v) (view w) e);
  }

-- Tagged values of one form are equal if and only if their encodings are, and copies have equal encodings, if this holds for the values in them.
use Rattle.std.proofs.Common.{◌≡◌, ℕ, List, Bool, true, false, refl, sym, ap, ◌∙◌, IsTrue, ◌↔◌, ◌&&◌, ◌==◌, eq-eqb}
use borrow.Author.Tests.{eqb-true}
use Rattle.der_tlv.specs.declared.tag.Tag.{Tag}
use Rattle.der_tlv.specs.declared.tag.mode.TagMode.{TagMode}
use Rattle.der_tlv.specs.declared.tag.mode.TagMode.TheVariants.{Explicit, Implicit}
use Rattle.der_tlv.specs.contracts.tag.mode.TagModePartialEq.TheImpl as modes
use Rattle.der_tlv.specs.TagParts.{number_of, is_constructed}
use Rattle.der_tlv.specs.HeaderOctets.{tlv}
use Rattle.der_tlv.specs.HeaderLaws.{tlv-injective}
use Rattle.der_wrap.specs.ClassTags.{class_tag}
use Rattle.der_wrap.specs.TaggedValues.{tag_of_mode, contents_of_mode, ComparableTagged}
use Rattle.der_wrap.specs.TaggedValueLaws.{class_tag-number}

-- each of three tests
abbrev pub all_three : Bool → Bool → Bool → Bool
all_three a b c = a && (b && c)

three_true : (a b c : Bool) → all_three a b c ≡ true → (a ≡ true) × (c ≡ true)
three_true true true c h = (refl, h)
three_true true false c h = absurd (cc)
three_true false b c h = absurd (cc)

all_true : (a b c : Bool) → a ≡ true → b ≡ true → c ≡ true → all_three a b c ≡ true
all_true true true c h k l = l
all_true true false c h k l = k
all_true false b c h k l = h

-- `==` of modes
abbrev pub mode_eq : TagMode → TagMode → Bool
mode_eq m n = modes.ghosts.eq m n

mode_eq-same : (m : TagMode) → mode_eq m m ≡ true
mode_eq-same Explicit = refl
mode_eq-same Implicit = refl

-- a copy is equal to its source, if the copy of the value in it is
pub copy_is_equal_tagged_value : {T : Type 0} (eq : T → T → Bool) (n m : ℕ) (mode other : TagMode) (v w : T) → m ≡ n → other ≡ mode → IsTrue (eq v w) → IsTrue (all_three (n == m) (mode_eq mode other) (eq v w))
copy_is_equal_tagged_value eq n m mode other v w e f h =
    all_true (n == m) (mode_eq mode other) (eq v w) (eq-eqb n m (sym e)) (ap (mode_eq mode) f ∙ mode_eq-same mode) h

module _ {T : Type 0} (tag_of : T → Tag) (contents encoding : T → List ℕ) (encoding_is : (v : T) → encoding v ≡ tlv (tag_of v) (contents v)) where
  -- if encodings are equal, so are the tags and the contents octets
  parts : (v w : T) → encoding v ≡ encoding w → (tag_of v ≡ tag_of w) × (contents v ≡ contents w)
  parts v w e = tlv-injective (tag_of v) (tag_of w) (contents v) (contents w) (sym (encoding_is v) ∙ e ∙ encoding_is w)

  whole : (v w : T) → tag_of v ≡ tag_of w → contents v ≡ contents w → encoding v ≡ encoding w
  whole v w t c = encoding_is v ∙ ap (λ t. tlv t (contents v)) t ∙ ap (tlv (tag_of w)) c ∙ sym (encoding_is w)

  -- the encoding of a tagged value
  abbrev encoded : ℕ → TagMode → ℕ → T → List ℕ
  encoded bits mode n v = tlv (tag_of_mode bits mode n (tag_of v)) (contents_of_mode mode (encoding v) (contents v))

  -- values with equal encodings have equal encodings after equal tags
  pub encoded_alike : (bits n m : ℕ) (mode : TagMode) (v w : T) → n ≡ m → encoding v ≡ encoding w → encoded bits mode n v ≡ encoded bits mode m w
  encoded_alike bits n m Explicit v w k e = ap (λ n. tlv (class_tag bits true n) (encoding v)) k ∙ ap (tlv (class_tag bits true m)) e
  encoded_alike bits n m Implicit v w k e =
      let both = parts v w e in
      ap (λ n. tlv (class_tag bits (is_constructed (tag_of v)) n) (contents v)) k ∙ ap (λ t. tlv (class_tag bits (is_constructed t) m) (contents v)) both.0 ∙ ap (tlv (class_tag bits (is_constructed (tag_of w)) m)) both.1

  same_number : (bits n m : ℕ) (f g : Bool) (c d : List ℕ) → tlv (class_tag bits f n) c ≡ tlv (class_tag bits g m) d → n ≡ m
  same_number bits n m f g c d e =
      sym (class_tag-number f n bits) ∙ ap number_of (tlv-injective (class_tag bits f n) (class_tag bits g m) c d e).0 ∙ class_tag-number g m bits

  -- comparable values with equal encodings after tags have equal encodings themselves, and equal numbers
  distinguished : (bits n m : ℕ) (mode : TagMode) (v w : T) → (mode ≡ Implicit → tag_of v ≡ tag_of w) → encoded bits mode n v ≡ encoded bits mode m w → (n ≡ m) × (encoding v ≡ encoding w)
  distinguished bits n m Explicit v w same_tag e =
      (same_number bits n m true true (encoding v) (encoding w) e, (tlv-injective (class_tag bits true n) (class_tag bits true m) (encoding v) (encoding w) e).1)
  distinguished bits n m Implicit v w same_tag e =
      let f = is_constructed (tag_of v) in
      let g = is_constructed (tag_of w) in
      (same_number bits n m f g (contents v) (contents w) e, whole v w (same_tag refl) (tlv-injective (class_tag bits f n) (class_tag bits g m) (contents v) (contents w) e).1)

  module _ (comparable : T → T → Type 0) (eq : T → T → Bool) (encoding_eq : (v w : T) → comparable v w → IsTrue (eq v w) ↔ (encoding v ≡ encoding w)) where
    at_one_mode : (bits n m : ℕ) (mode : TagMode) (v w : T) → comparable v w → (mode ≡ Implicit → tag_of v ≡ tag_of w) → IsTrue (all_three (n == m) (mode_eq mode mode) (eq v w)) ↔ (encoded bits mode n v ≡ encoded bits mode m w)
    at_one_mode bits n m mode v w one same_tag = (
      (λ h. let t = three_true (n == m) (mode_eq mode mode) (eq v w) h in encoded_alike bits n m mode v w (eqb-true n m t.0) ((encoding_eq v w one).0 t.1)),
      (λ e. let t = distinguished bits n m mode v w same_tag e in all_true (n == m) (mode_eq mode mode) (eq v w) (eq-eqb n m t.0) (mode_eq-same mode) ((encoding_eq v w one).1 t.1)),
    )

    pub encoding_eq_tagged_value : (bits n m : ℕ) (mode other : TagMode) (v w : T) → ComparableTagged comparable tag_of mode other v w → IsTrue (all_three (n == m) (mode_eq mode other) (eq v w)) ↔ (encoded bits mode n v ≡ encoded bits other m w)
    encoding_eq_tagged_value bits n m Explicit Explicit v w one = at_one_mode bits n m Explicit v w one.comparable one.same_tag
    encoding_eq_tagged_value bits n m Implicit Implicit v w one = at_one_mode bits n m Implicit v w one.comparable one.same_tag
    encoding_eq_tagged_value bits n m Explicit Implicit v w one = let k = one.same_mode in absurd (cc)
    encoding_eq_tagged_value bits n m Implicit Explicit v w one = let k = one.same_mode in absurd (cc)

  -- a copy with the same tag has the encoding of its source
  pub copy_encoding_tagged_value : (bits n m : ℕ) (mode other : TagMode) (v w : T) → m ≡ n → other ≡ mode → encoding w ≡ encoding v → encoded bits other m w ≡ encoded bits mode n v
  copy_encoding_tagged_value bits n m mode other v w k e same =
      ap (λ mode. encoded bits mode m w) e ∙ encoded_alike bits m n mode w v k same

  -- a copy with the same tag is comparable with the values that its source is comparable with
  pub copy_comparable_tagged_value : (comparable : T → T → Type 0) (mode other third : TagMode) (v w x : T) → other ≡ mode → encoding w ≡ encoding v → (comparable v x → comparable w x) → ComparableTagged comparable tag_of mode third v x → ComparableTagged comparable tag_of other third w x
  copy_comparable_tagged_value comparable mode other third v w x e same copy one =
      record {
        same_mode = e ∙ one.same_mode;
        comparable = copy one.comparable;
        same_tag = λ i. (parts w v same).0 ∙ one.same_tag (sym e ∙ i);
      }

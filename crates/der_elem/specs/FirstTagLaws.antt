-- The first tags of the encodings of fields; no encoding is a prefix of another, if both fields are present.
use Rattle.std.proofs.Common.{◌≡◌, ℕ, ◌<◌, List, ◌++◌, length, Bool, true, Option, Some, None, refl, sym, ap, ◌∙◌, subst, arith, append_assoc, length-append}
use Rattle.der_tlv.specs.declared.encoding_rules.EncodingRules.{EncodingRules}
use Rattle.der_tlv.specs.declared.tag.Tag.{Tag}
use Rattle.der_tlv.specs.Identifier.{identifier}
use Rattle.der_tlv.specs.IdentifierLaws.{length-identifier-positive}
use Rattle.der_tlv.specs.LengthOctets.{length_octets}
use Rattle.der_tlv.specs.HeaderOctets.{tlv}
use Rattle.der_tlv.specs.OctetLaws.{SameBeginning}
use Rattle.der_elem.specs.declared.form.Form as form
use Rattle.der_elem.specs.FirstTags.{HasFirstTag, BeginsWithFirst, BeginsWithTag, SamePresence, Starts, StartsWith}
use Rattle.der_elem.specs.FieldDecoding.{DistinguishedFromNext}
use Rattle.der_elem.specs.Options.{encoding_option, first_tag_option}
use Rattle.der_elem.specs.OrderLaws.{encoding-beginning}

some-injective : {t u : Tag} → ◌≡◌ {A = Option Tag} (Some t) (Some u) → t ≡ u
some-injective e = cc

starts_tlv : (t : Tag) (c : List ℕ) → StartsWith t (tlv t c)
starts_tlv t c = record { others = length_octets (length c) ++ c; octets_are = append_assoc (identifier t) (length_octets (length c)) c }

pub own_first_tag_tagged : (tags : Tag → Bool) (own : Tag) → tags own ≡ true → (first_tag : Option Tag) → first_tag ≡ Some own → (t : Tag) → first_tag ≡ Some t → tags t ≡ true
own_first_tag_tagged tags own is (Some u) e t f = subst (λ t. tags t ≡ true) (some-injective (sym e ∙ f)) is
own_first_tag_tagged tags own is None e t f = absurd (cc)

pub own_first_tag_option : {T : Type 0} (tags : Tag → Bool) (tag_of : T → Tag) (own_tag : (v : T) → tags (tag_of v) ≡ true) (first_tag : T → Option Tag) (first_tag_is : (v : T) → first_tag v ≡ Some (tag_of v)) (o : Option T) (t : Tag) → first_tag_option first_tag o ≡ Some t → tags t ≡ true
own_first_tag_option tags tag_of own_tag first_tag first_tag_is None t f = absurd (cc)
own_first_tag_option tags tag_of own_tag first_tag first_tag_is (Some v) t f = own_first_tag_tagged tags (tag_of v) (own_tag v) (first_tag v) (first_tag_is v) t f

module _ {T : Type 0} (tag_of : T → Tag) (contents encoding : T → List ℕ) (encoding_is : (v : T) → encoding v ≡ tlv (tag_of v) (contents v)) where
  pub starts_tagged : (v : T) (first_tag : Option Tag) → first_tag ≡ Some (tag_of v) → Starts first_tag (encoding v)
  starts_tagged v first_tag e = subst (λ l. Starts l (encoding v)) (sym e) (subst (StartsWith (tag_of v)) (sym (encoding_is v)) (starts_tlv (tag_of v) (contents v)))

  pub starts_option : (first_tag : T → Option Tag) (first_tag_is : (v : T) → first_tag v ≡ Some (tag_of v)) (o : Option T) → Starts (first_tag_option first_tag o) (encoding_option encoding o)
  starts_option first_tag first_tag_is None = refl
  starts_option first_tag first_tag_is (Some v) = starts_tagged v (first_tag v) (first_tag_is v)

  pub beginning_tagged : (v w : T) → SameBeginning (encoding v) (encoding w)
  beginning_tagged = encoding-beginning tag_of contents encoding encoding_is

  pub beginning_option : (first_tag : T → Option Tag) (first_tag_is : (v : T) → first_tag v ≡ Some (tag_of v)) (o q : Option T) → SamePresence (first_tag_option first_tag o) (first_tag_option first_tag q) → SameBeginning (encoding_option encoding o) (encoding_option encoding q)
  beginning_option first_tag first_tag_is None None h = record { same = λ x y e. refl }
  beginning_option first_tag first_tag_is (Some v) (Some w) h = beginning_tagged v w
  beginning_option first_tag first_tag_is None (Some w) h = absurd (subst (SamePresence None) (first_tag_is w) h)
  beginning_option first_tag first_tag_is (Some v) None h = absurd (subst (λ l. SamePresence l None) (first_tag_is v) h)

-- octets that begin with a tag are not empty
pub begins_with_tag_some : {t : Tag} {b : List ℕ} → BeginsWithTag t b → 0 < length b
begins_with_tag_some {t} {b} l = omega (arith, ap length l.octets_are, length-append (identifier t) l.others, length-identifier-positive t)

pub has_first_tag_some : {T : Type 0} (F : form.Ghosts T) → ((v : T) → HasFirstTag (F.first_tag_of v)) → (rules : EncodingRules) (v : T) (b : List ℕ) → F.accepts rules v b → 0 < length b
has_first_tag_some F has_first_tag rules v b a =
    let present = has_first_tag v in
    begins_with_tag_some (subst (λ first_tag. BeginsWithFirst first_tag b) present.is_tag (F.begins_first rules v b a))

-- a field that is present is distinguished from what follows it
pub distinguished_present : (tags : Tag → Bool) (first_tag : Option Tag) (t : Tag) (p : ℕ) (octets : List ℕ) → first_tag ≡ Some t → DistinguishedFromNext tags first_tag p octets
distinguished_present tags first_tag t p octets e = subst (λ l. DistinguishedFromNext tags l p octets) (sym e) tt

-- The laws of fields with a DEFAULT, from the laws of the values.
use Rattle.std.proofs.Common.{◌≡◌, ℕ, List, [], ◌∷◌, ◌++◌, length, Bool, true, false, nat_eq, Option, Some, None, Result, Ok, Err, refl, sym, ap, ◌∙◌, arith, append_assoc, subst, not, eq-eqb, IsTrue, ◌↔◌}
use borrow.Author.Tests.{eqb-true}
use Rattle.std.proofs.lemmas.Bool.{false_from_ne_true}
use Rattle.std.proofs.lemmas.List.{append-nil, nil_from_length}
use Rattle.std.specs.declared.cmp.Ordering.TheVariants.{Less, Greater}
use Rattle.std.specs.Cmp.Lexicographic.{pointwise, bytes_decides}
use Rattle.der_tlv.specs.declared.encoding_rules.EncodingRules.{EncodingRules}
use Rattle.der_tlv.specs.declared.error.ErrorKind.{ErrorKind}
use Rattle.der_tlv.specs.declared.error.ErrorKind.TheVariants.{Noncanonical}
use Rattle.der_tlv.specs.declared.tag.Tag.{Tag}
use Rattle.der_tlv.specs.declared.tag.Tag.TheVariants.{Boolean, Integer}
use Rattle.der_tlv.specs.Octets.{lex}
use Rattle.der_tlv.specs.Identifier.{identifier}
use Rattle.der_tlv.specs.HeaderReading.{read_tag}
use Rattle.der_tlv.specs.HeaderOctets.{tlv}
use Rattle.der_tlv.specs.HeaderLaws.{tlv-injective}
use Rattle.der_tlv.specs.OctetFaults.{IsOfOctets, of_octets_either, tag_of_octets_read}
use Rattle.der_tlv.specs.OctetLaws.{SameBeginning}
use Rattle.der_elem.specs.Parsing.{Parse}
use Rattle.der_tlv.specs.TagReadingLaws.{read_tag-identifier}
use Rattle.der_elem.specs.Boolean.{boolean_contents, boolean_contents-injective}
use Rattle.der_elem.specs.Integer.{natural_contents}
use Rattle.der_elem.specs.IntegerLaws.{natural_contents-injective}
use Rattle.der_elem.specs.declared.form.Form as form
use Rattle.der_elem.specs.Accepting.{Fits, BeginsWith, MayFollow}
use Rattle.der_elem.specs.FirstTags.{BeginsWithFirst, Starts, SamePresence}
use Rattle.der_elem.specs.FirstTagLaws.{starts_tagged, own_first_tag_tagged, beginning_tagged}
use Rattle.der_elem.specs.OrderLaws.{encoding-some, lex-absent-present, lex-present-absent}
use Rattle.der_fields.specs.Defaults.{is_default, octets_unless, first_tag_unless, test_unless, accepts_unless, refuse_default, default_at_tag, parse_default}

-- the errors are errors of the octets, if those of the value are
refused_of_octets : (default : List ℕ) (tag : Tag) (r : Result (ℕ × List ℕ) ErrorKind) → IsOfOctets r → IsOfOctets (refuse_default default tag r)
refused_of_octets default tag (Err k) h = h
refused_of_octets default tag (Ok (n, octets)) h = of_octets_either (pointwise nat_eq octets default) (Err (Noncanonical tag)) (Ok (n, octets)) refl tt

default_at_tag_of_octets : (tags : Tag → Bool) (default : List ℕ) (parsed : Result (ℕ × List ℕ) ErrorKind) → IsOfOctets parsed → (next : Result (ℕ × Tag) ErrorKind) → IsOfOctets next → IsOfOctets (default_at_tag tags default parsed next)
default_at_tag_of_octets tags default parsed h (Err k) next = next
default_at_tag_of_octets tags default parsed h (Ok (count, tag)) next =
    of_octets_either (tags tag) (refuse_default default tag parsed) (Ok (0, [])) (refused_of_octets default tag parsed h) tt

pub default_of_octets : (tags : Tag → Bool) (default : List ℕ) (parse : Parse) → ((rules : EncodingRules) (p : ℕ) (c : List ℕ) → IsOfOctets (parse rules p c)) → (rules : EncodingRules) (p : ℕ) (octets : List ℕ) → IsOfOctets (parse_default tags default parse rules p octets)
default_of_octets tags default parse h rules p [] = tt
default_of_octets tags default parse h rules p (z ∷ octets) =
    default_at_tag_of_octets tags default (parse rules p (z ∷ octets)) (h rules p (z ∷ octets)) (read_tag p (z ∷ octets)) (tag_of_octets_read p (z ∷ octets))

-- the test recognizes the default's encoding
default_refused : (default octets : List ℕ) → octets ≡ default → pointwise nat_eq octets default ≡ true
default_refused default octets e = (bytes_decides octets default).1 e

is_the_default : (default octets : List ℕ) → pointwise nat_eq octets default ≡ true → octets ≡ default
is_the_default default octets e = (bytes_decides octets default).0 e

other_passes : (default octets : List ℕ) (n : ℕ) (tag : Tag) → (octets ≡ default → ⊥) → refuse_default default tag (Ok (n, octets)) ≡ Ok (n, octets)
other_passes default octets n tag h =
    let differs : pointwise nat_eq octets default ≡ false = false_from_ne_true (pointwise nat_eq octets default) (λ e. h (is_the_default default octets e)) in
    rw differs refl

-- a test that is true exactly if the octets are the default's
told_default : (default octets : List ℕ) (test : Bool) → (test ≡ true → octets ≡ default) → (octets ≡ default → test ≡ true) → test ≡ is_default default octets
told_default default octets true f g = sym (default_refused default octets (f refl))
told_default default octets false f g = sym (false_from_ne_true (pointwise nat_eq octets default) (λ e. let h = g (is_the_default default octets e) in absurd (cc)))

-- an explicit tag before both encodings does not change whether one is the default's
pub explicit_default : (t : Tag) (default octets : List ℕ) → is_default default octets ≡ is_default (tlv t default) (tlv t (octets ++ []))
explicit_default t default octets =
    told_default (tlv t default) (tlv t (octets ++ [])) (is_default default octets) (λ h. ap (tlv t) (append-nil octets ∙ is_the_default default octets h)) (λ e. default_refused default octets (sym (append-nil octets) ∙ (tlv-injective t t (octets ++ []) default e).1))

-- after a tag, only false has the encoding of false
pub false_default : (t : Tag) (v : Bool) → not v ≡ is_default (tlv t (boolean_contents false)) (tlv t (boolean_contents v))
false_default t false = told_default (tlv t (boolean_contents false)) (tlv t (boolean_contents false)) true (λ h. refl) (λ e. refl)
false_default t true = told_default (tlv t (boolean_contents false)) (tlv t (boolean_contents true)) false (λ h. absurd (cc)) (λ e. let same = boolean_contents-injective true false (tlv-injective t t (boolean_contents true) (boolean_contents false) e).1 in sym same)

-- after a tag, only the default has the encoding of the default
pub number_default : (t : Tag) (n v : ℕ) → nat_eq v n ≡ is_default (tlv t (natural_contents n)) (tlv t (natural_contents v))
number_default t n v =
    told_default (tlv t (natural_contents n)) (tlv t (natural_contents v)) (nat_eq v n) (λ h. ap (λ v. tlv t (natural_contents v)) (eqb-true v n h)) (λ e. eq-eqb v n (natural_contents-injective v n (tlv-injective t t (natural_contents v) (natural_contents n) e).1))

module _ {T : Type 0} (F : form.Ghosts T) (default : List ℕ) (rules : EncodingRules) where
  absent : (p z : ℕ) (x : List ℕ) → BeginsWith F.tags false (z ∷ x) → parse_default F.tags default F.parse rules p (z ∷ x) ≡ Ok (0, [])
  absent p z x h =
      let tag : read_tag p (z ∷ x) ≡ Ok (length (identifier h.tag), h.tag) = ap (read_tag p) h.octets_are ∙ read_tag-identifier h.tag p h.others h.is_tag in
      rw (tag, h.is_one) refl

  parse_at : (k : Bool) (v : T) → is_default default (F.encoding v) ≡ k → (p : ℕ) (b x : List ℕ) → accepts_unless k (F.readable v) (F.accepts rules v) b → Fits b → MayFollow F.tags b x → parse_default F.tags default F.parse rules p (b ++ x) ≡ Ok (length b, octets_unless k (F.encoding v))
  parse_at true v e p [] [] a fits follows = refl
  parse_at true v e p [] (z ∷ x) a fits follows = absent p z x follows
  parse_at true v e p (z ∷ b) x a fits follows = let none = a.0 in absurd (cc)
  parse_at false v e p [] [] a fits follows = ap (λ s. Ok (0, s)) (sym (nil_from_length (F.encoding v) (F.same_length rules v [] a)))
  parse_at false v e p [] (z ∷ x) a fits follows = absent p z x follows ∙ ap (λ s. Ok (0, s)) (sym (nil_from_length (F.encoding v) (F.same_length rules v [] a)))
  parse_at false v e p (z ∷ b) x a fits follows =
      let h = F.begins rules v z b a in
      let whole : z ∷ (b ++ x) ≡ identifier h.tag ++ (h.others ++ x) = ap (λ o. o ++ x) h.octets_are ∙ append_assoc (identifier h.tag) h.others x in
      let tag : read_tag p (z ∷ (b ++ x)) ≡ Ok (length (identifier h.tag), h.tag) = ap (read_tag p) whole ∙ read_tag-identifier h.tag p (h.others ++ x) h.is_tag in
      let other : F.encoding v ≡ default → ⊥ = λ s. let t = default_refused default (F.encoding v) s in (cc) in
      rw (tag, h.is_one) (ap (refuse_default default h.tag) (F.parse_of_accepted rules v p (z ∷ b) x a fits tt) ∙ other_passes default (F.encoding v) (length (z ∷ b)) h.tag other)

  pub parse_of_default : (v : T) (p : ℕ) (b x : List ℕ) → accepts_unless (is_default default (F.encoding v)) (F.readable v) (F.accepts rules v) b → Fits b → MayFollow F.tags b x → parse_default F.tags default F.parse rules p (b ++ x) ≡ Ok (length b, octets_unless (is_default default (F.encoding v)) (F.encoding v))
  parse_of_default v = parse_at (is_default default (F.encoding v)) v refl

module _ {T : Type 0} (F : form.Ghosts T) (rules : EncodingRules) where
  pub begins_default : (k : Bool) (v : T) (z : ℕ) (b : List ℕ) → accepts_unless k (F.readable v) (F.accepts rules v) (z ∷ b) → BeginsWith F.tags true (z ∷ b)
  begins_default true v z b a = let none = a.0 in absurd (cc)
  begins_default false v z b a = F.begins rules v z b a

  pub begins_first_default : (k : Bool) (v : T) (b : List ℕ) → accepts_unless k (F.readable v) (F.accepts rules v) b → BeginsWithFirst (first_tag_unless k (F.first_tag_of v)) b
  begins_first_default true v b a = a.0
  begins_first_default false v b a = F.begins_first rules v b a

  pub same_length_default : (k : Bool) (v : T) (b : List ℕ) → accepts_unless k (F.readable v) (F.accepts rules v) b → length (octets_unless k (F.encoding v)) ≡ length b
  same_length_default true v b a = ap length (sym a.0)
  same_length_default false v b a = F.same_length rules v b a

  pub accepts_default : (k : Bool) (v : T) → F.readable v → accepts_unless k (F.readable v) (F.accepts rules v) (octets_unless k (F.encoding v))
  accepts_default true v r = (refl, r)
  accepts_default false v r = F.accepts_encoding rules v r

  pub readable_default : (k : Bool) (v : T) (b : List ℕ) → accepts_unless k (F.readable v) (F.accepts rules v) b → F.readable v
  readable_default true v b a = a.1
  readable_default false v b a = F.only_readable rules v b a

  pub comparable_default : (k l : Bool) (v w : T) (b c : List ℕ) → accepts_unless k (F.readable v) (F.accepts rules v) b → accepts_unless l (F.readable w) (F.accepts rules w) c → F.comparable v w
  comparable_default k l v w b c a e =
      F.accepts_comparable rules v w (F.encoding v) (F.encoding w) (F.accepts_encoding rules v (readable_default k v b a)) (F.accepts_encoding rules w (readable_default l w c e))

module _ {T : Type 0} (F : form.Ghosts T) where
  pub re_reads_default : (k : Bool) (v : T) → test_unless k (F.re_reads v) ≡ true → F.TAKES_MEMORY ≡ true
  re_reads_default true v h = absurd (cc)
  re_reads_default false v h = F.re_reads_memory v h

-- the first tag of a present field is one of its own
pub own_first_tag_default : (tags : Tag → Bool) (own : Tag) → tags own ≡ true → (first_tag : Option Tag) → first_tag ≡ Some own → (k : Bool) (t : Tag) → first_tag_unless k first_tag ≡ Some t → tags t ≡ true
own_first_tag_default tags own is first_tag e true t f = absurd (cc)
own_first_tag_default tags own is first_tag e false t f = own_first_tag_tagged tags own is first_tag e t f

module _ {T : Type 0} (tag_of : T → Tag) (contents encoding : T → List ℕ) (encoding_is : (v : T) → encoding v ≡ tlv (tag_of v) (contents v)) where
  pub starts_default : (v : T) (first_tag : Option Tag) → first_tag ≡ Some (tag_of v) → (k : Bool) → Starts (first_tag_unless k first_tag) (octets_unless k (encoding v))
  starts_default v first_tag e true = refl
  starts_default v first_tag e false = starts_tagged tag_of contents encoding encoding_is v first_tag e

  pub beginning_default : (first_tag : T → Option Tag) (first_tag_is : (v : T) → first_tag v ≡ Some (tag_of v)) (k l : Bool) (v w : T) → SamePresence (first_tag_unless k (first_tag v)) (first_tag_unless l (first_tag w)) → SameBeginning (octets_unless k (encoding v)) (octets_unless l (encoding w))
  beginning_default first_tag first_tag_is true true v w h = record { same = λ x y e. refl }
  beginning_default first_tag first_tag_is false false v w h = beginning_tagged tag_of contents encoding encoding_is v w
  beginning_default first_tag first_tag_is true false v w h = absurd (subst (SamePresence None) (first_tag_is w) h)
  beginning_default first_tag first_tag_is false true v w h = absurd (subst (λ l. SamePresence l None) (first_tag_is v) h)

  -- an absent value is less than a present one
  pub absent_first : (v w : T) (k l : Bool) → k ≡ true → l ≡ false → Less ≡ lex (octets_unless k (encoding v)) (octets_unless l (encoding w))
  absent_first v w true false e f = sym (lex-absent-present tag_of contents encoding encoding_is w)
  absent_first v w true true e f = absurd (cc)
  absent_first v w false l e f = absurd (cc)

  pub absent_second : (v w : T) (k l : Bool) → k ≡ false → l ≡ true → Greater ≡ lex (octets_unless k (encoding v)) (octets_unless l (encoding w))
  absent_second v w false true e f = sym (lex-present-absent tag_of contents encoding encoding_is v)
  absent_second v w false false e f = absurd (cc)
  absent_second v w true l e f = absurd (cc)

  module _ (comparable : T → T → Type 0) (eq : T → T → Bool) (encoding_eq : (v w : T) → comparable v w → IsTrue (eq v w) ↔ (encoding v ≡ encoding w)) (default : List ℕ) where
    eq_at : (k l : Bool) (v w : T) → is_default default (encoding v) ≡ k → is_default default (encoding w) ≡ l → comparable v w → IsTrue (eq v w) ↔ (octets_unless k (encoding v) ≡ octets_unless l (encoding w))
    eq_at true true v w i j one = (λ h. refl, λ e. (encoding_eq v w one).1 (is_the_default default (encoding v) i ∙ sym (is_the_default default (encoding w) j)))
    eq_at false false v w i j one = encoding_eq v w one
    eq_at true false v w i j one = (
      (λ h. let same = default_refused default (encoding w) (sym ((encoding_eq v w one).0 h) ∙ is_the_default default (encoding v) i) in absurd (cc)),
      (λ e. let some = encoding-some tag_of contents encoding encoding_is w in absurd (omega (arith, ap length e))),
    )
    eq_at false true v w i j one = (
      (λ h. let same = default_refused default (encoding v) ((encoding_eq v w one).0 h ∙ is_the_default default (encoding w) j) in absurd (cc)),
      (λ e. let some = encoding-some tag_of contents encoding encoding_is v in absurd (omega (arith, ap length e))),
    )

    -- values are equal exactly if the octets of the fields are
    pub encoding_eq_default : (v w : T) → comparable v w → IsTrue (eq v w) ↔ (octets_unless (is_default default (encoding v)) (encoding v) ≡ octets_unless (is_default default (encoding w)) (encoding w))
    encoding_eq_default v w = eq_at (is_default default (encoding v)) (is_default default (encoding w)) v w refl refl

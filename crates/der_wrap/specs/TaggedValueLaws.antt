-- The laws of explicit tagging, from those of the values.
use Rattle.std.proofs.Common.{◌≡◌, ℕ, ◌+◌, ◌-◌, ◌*◌, lit<, ◌<◌, ◌^◌, List, [], ◌∷◌, ◌++◌, length, drop, Bool, true, false, Result, Ok, Err, refl, sym, ap, ◌∙◌, subst, ◌==◌, if◌then◌else◌, append_assoc, eq-eqb}
use borrow.Author.Tests.{eqb-true}
use Rattle.std.proofs.lemmas.List.{length-append, append-nil}
use Rattle.std.proofs.Math.Seq.{take-append_seam, drop-append_seam}
use Rattle.der_tlv.specs.declared.encoding_rules.EncodingRules.{EncodingRules}
use Rattle.der_tlv.specs.declared.error.ErrorKind.{ErrorKind}
use Rattle.der_tlv.specs.declared.error.ErrorKind.TheVariants.{TrailingData}
use Rattle.der_tlv.specs.declared.header.Header.{Header}
use Rattle.der_tlv.specs.declared.tag.Tag.{Tag}
use Rattle.der_tlv.specs.declared.tag.class.Class.{Class}
use Rattle.der_tlv.specs.declared.tag.class.Class.TheVariants as classes
use Rattle.der_tlv.specs.declared.tag.Tag.TheVariants.{Application, ContextSpecific, Private}
use Rattle.der_tlv.specs.declared.tag.mode.TagMode.{TagMode}
use Rattle.der_tlv.specs.declared.tag.mode.TagMode.TheVariants.{Explicit, Implicit}
use Rattle.der_tlv.specs.TagParts.{IsTag, is_constructed, number_of, class_of}
use Rattle.der_tlv.specs.Identifier.{identifier, class_index}
use Rattle.der_tlv.specs.IdentifierLaws.{first_octet-unique, tag-unique}
use Rattle.der_tlv.specs.LengthOctets.{length_octets}
use Rattle.der_tlv.specs.LengthLaws.{not_short}
use Rattle.der_tlv.specs.HeaderOctets.{header_octets, tlv}
use Rattle.der_tlv.specs.HeaderLaws.{read_header-octets}
use Rattle.der_tlv.specs.HeaderReading.{read_header}
use Rattle.der_tlv.specs.OctetFaults.{IsOfOctets, of_octets_either, header_of_octets_read}
use Rattle.der_elem.specs.Parsing.{Parse}
use Rattle.der_elem.specs.declared.form.Form as form
use Rattle.der_elem.specs.Accepting.{Fits, BeginsWith, MayFollow}
use Rattle.der_elem.specs.FirstTags.{BeginsWithTag}
use Rattle.der_elem.specs.TaggedLaws.{contents_fit, contents_of_octets, length-tlv}
use Rattle.der_wrap.specs.ClassTags.{class_of_bits, class_tag, in_class}
use Rattle.der_wrap.specs.TaggedValues.{tag_of_mode, contents_of_mode, ComparableTagged, all_of, one_encoding, accepts_one_encoding, explicit_with_header, parse_explicit, AcceptsExplicit, ReadableExplicit}

module _ (constructed : Bool) (n : ℕ) where
  abbrev choice : Bool → Bool → Tag
  choice one two =
      if one then Application constructed (record { 0 = n })
      else (if two then ContextSpecific constructed (record { 0 = n })
      else Private constructed (record { 0 = n }))

  constructed_of : (one two : Bool) → is_constructed (choice one two) ≡ constructed
  constructed_of true two = refl
  constructed_of false true = refl
  constructed_of false false = refl

  number_of_choice : (one two : Bool) → number_of (choice one two) ≡ n
  number_of_choice true two = refl
  number_of_choice false true = refl
  number_of_choice false false = refl

  -- the form of a tag of a class
  pub class_tag-constructed : (bits : ℕ) → is_constructed (class_tag bits constructed n) ≡ constructed
  unfolding class_tag
  class_tag-constructed bits = constructed_of (bits == 1) (bits == 2)

  -- the number of a tag of a class
  pub class_tag-number : (bits : ℕ) → number_of (class_tag bits constructed n) ≡ n
  unfolding class_tag
  class_tag-number bits = number_of_choice (bits == 1) (bits == 2)

  abbrev class_choice : Bool → Bool → Class
  class_choice one two = if one then classes.Application else (if two then classes.ContextSpecific else classes.Private)

  class_of_choice : (one two : Bool) → class_of (choice one two) ≡ class_choice one two
  class_of_choice true two = refl
  class_of_choice false true = refl
  class_of_choice false false = refl

  -- the class of a tag of a class
  pub class_tag-class_of : (bits : ℕ) → class_of (class_tag bits constructed n) ≡ class_of_bits bits
  unfolding class_tag
  class_tag-class_of bits = class_of_choice (bits == 1) (bits == 2)

  pub class_tag-class : (bits : ℕ) → in_class bits (class_tag bits constructed n) ≡ true
  class_tag-class bits =
      let index = class_index (class_of_bits bits) in
      ap (λ c. class_index c == index) (class_tag-class_of bits) ∙ eq-eqb index index refl

-- the tag of a tagged value is of the class
pub tag_of_mode-class : (bits : ℕ) (mode : TagMode) (n : ℕ) (inner : Tag) → in_class bits (tag_of_mode bits mode n inner) ≡ true
tag_of_mode-class bits Explicit n inner = class_tag-class true n bits
tag_of_mode-class bits Implicit n inner = class_tag-class (is_constructed inner) n bits

-- a tag of a class is determined by its form and its number
pub class_tag-of : (bits : ℕ) (t : Tag) → in_class bits t ≡ true → t ≡ class_tag bits (is_constructed t) (number_of t)
class_tag-of bits t h =
    let c = is_constructed t in
    let n = number_of t in
    let u = class_tag bits c n in
    let index : class_index (class_of t) ≡ class_index (class_of u) = eqb-true _ _ h ∙ sym (eqb-true _ _ (class_tag-class c n bits)) in
    let class = (first_octet-unique (class_of t) (class_of u) false false 0 0 (lit< tt) (lit< tt) (ap (λ k. 64 * k + (32 * 0 + 0)) index)).0 in
    tag-unique t u class (sym (class_tag-constructed c n bits)) (sym (class_tag-number c n bits))

pub class_tag-with : (bits : ℕ) (t : Tag) (constructed : Bool) (n : ℕ) → is_constructed t ≡ constructed → in_class bits t ≡ true → n ≡ number_of t → t ≡ class_tag bits constructed n
class_tag-with bits t constructed n c h e =
    class_tag-of bits t h ∙ ap (λ c. class_tag bits c (number_of t)) c ∙ ap (class_tag bits constructed) (sym e)

nothing_follows : (tags : Tag → Bool) (b : List ℕ) → MayFollow tags b []
nothing_follows tags [] = tt
nothing_follows tags (y ∷ b) = tt

module _ {T : Type 0} (F : form.Ghosts T) where
  -- the octets of one value are parsed as that value
  pub parse_one_encoding : (rules : EncodingRules) (v : T) (p : ℕ) (c : List ℕ) → F.accepts rules v c → Fits c → one_encoding F.parse rules p c ≡ Ok (F.encoding v)
  parse_one_encoding rules v p c a fits =
      let alone : F.parse rules p c ≡ Ok (length c, F.encoding v) = ap (F.parse rules p) (sym (append-nil c)) ∙ F.parse_of_accepted rules v p c [] a fits (nothing_follows F.tags c) in
      rw (alone, eq-eqb (length c) (length c) refl) refl

  module _ (bits n : ℕ) where
    explicit_octets : (rules : EncodingRules) (v : T) (p : ℕ) (c x : List ℕ) → IsTag (class_tag bits true n) → Fits (tlv (class_tag bits true n) c) → F.accepts rules v c → parse_explicit bits F.parse rules p (tlv (class_tag bits true n) c ++ x) ≡ Ok (length (tlv (class_tag bits true n) c), tlv (class_tag bits true n) (F.encoding v))
    unfolding parse_explicit
    explicit_octets rules v p c x is_tag fits a =
        let t = class_tag bits true n in
        let h = header_octets t (length c) in
        let regroup : tlv t c ++ x ≡ h ++ (c ++ x) = append_assoc h c x in
        let head = read_header-octets t (length c) p (c ++ x) is_tag (contents_fit t c fits) in
        ap (parse_explicit bits F.parse rules p) regroup ∙ ap (explicit_with_header bits F.parse rules p (h ++ (c ++ x))) head ∙ rw (class_tag-constructed true n bits, class_tag-class true n bits, drop-append_seam h (c ++ x), not_short c x, take-append_seam c x, parse_one_encoding rules v (p + length h) c a (contents_fit t c fits)) (ap (λ m. Ok (m, tlv t (F.encoding v))) (sym (length-append h c)))

    numbered_tag : n < 2 ^ 32 → IsTag (class_tag bits true n)
    numbered_tag h = subst (λ m. m < 2 ^ 32) (sym (class_tag-number true n bits)) h

    module _ (mode : TagMode) (v : T) (own : Tag) (contents : List ℕ) where
      -- the encoding of a value with explicit tagging
      explicit_encoding : mode ≡ Explicit → tlv (tag_of_mode bits mode n own) (contents_of_mode mode (F.encoding v) contents) ≡ tlv (class_tag bits true n) (F.encoding v)
      explicit_encoding e = rw e refl

      pub parse_of_explicit : (rules : EncodingRules) (p : ℕ) (b x : List ℕ) → AcceptsExplicit F.accepts bits n mode v rules b → Fits b → MayFollow (in_class bits) b x → parse_explicit bits F.parse rules p (b ++ x) ≡ Ok (length b, tlv (tag_of_mode bits mode n own) (contents_of_mode mode (F.encoding v) contents))
      parse_of_explicit rules p b x a fits follows =
          let e = explicit_encoding a.mode_is in
          let octets = explicit_octets rules v p a.inner x (numbered_tag a.numbered) (subst Fits a.octets_are fits) a.accepted in
          subst (λ b. parse_explicit bits F.parse rules p (b ++ x) ≡ Ok (length b, tlv (tag_of_mode bits mode n own) (contents_of_mode mode (F.encoding v) contents))) (sym a.octets_are) (octets ∙ ap (λ o. Ok (length (tlv (class_tag bits true n) a.inner), o)) (sym e))

      pub begins_explicit : (rules : EncodingRules) (z : ℕ) (b : List ℕ) → AcceptsExplicit F.accepts bits n mode v rules (z ∷ b) → BeginsWith (in_class bits) true (z ∷ b)
      begins_explicit rules z b a =
          record {
            tag = class_tag bits true n;
            others = length_octets (length a.inner) ++ a.inner;
            octets_are = a.octets_are ∙ append_assoc (identifier (class_tag bits true n)) (length_octets (length a.inner)) a.inner;
            is_tag = numbered_tag a.numbered;
            is_one = class_tag-class true n bits;
          }

      pub begins_first_explicit : (rules : EncodingRules) (b : List ℕ) → AcceptsExplicit F.accepts bits n mode v rules b → BeginsWithTag (tag_of_mode bits mode n own) b
      begins_first_explicit rules b a =
          subst (λ t. BeginsWithTag t b) (sym (ap (λ m. tag_of_mode bits m n own) a.mode_is)) (record {
            others = length_octets (length a.inner) ++ a.inner;
            octets_are = a.octets_are ∙ append_assoc (identifier (class_tag bits true n)) (length_octets (length a.inner)) a.inner;
            is_tag = numbered_tag a.numbered;
          })

      pub same_length_explicit : (rules : EncodingRules) (b : List ℕ) → AcceptsExplicit F.accepts bits n mode v rules b → length (tlv (tag_of_mode bits mode n own) (contents_of_mode mode (F.encoding v) contents)) ≡ length b
      same_length_explicit rules b a =
          ap length (explicit_encoding a.mode_is) ∙ length-tlv (class_tag bits true n) (F.encoding v) a.inner (F.same_length rules v a.inner a.accepted) ∙ ap length (sym a.octets_are)

      pub accepts_explicit_encoding : (rules : EncodingRules) → ReadableExplicit F.readable n mode v → AcceptsExplicit F.accepts bits n mode v rules (tlv (tag_of_mode bits mode n own) (contents_of_mode mode (F.encoding v) contents))
      accepts_explicit_encoding rules r =
          record { mode_is = r.mode_is; numbered = r.numbered; inner = F.encoding v; octets_are = explicit_encoding r.mode_is; accepted = F.accepts_encoding rules v r.readable }

      pub readable_explicit : (rules : EncodingRules) (b : List ℕ) → AcceptsExplicit F.accepts bits n mode v rules b → ReadableExplicit F.readable n mode v
      readable_explicit rules b a =
          record { mode_is = a.mode_is; numbered = a.numbered; readable = F.only_readable rules v a.inner a.accepted }

  -- the laws of the contents octets alone
  module _ (mode : TagMode) (v : T) (contents : List ℕ) where
    explicit_contents : mode ≡ Explicit → contents_of_mode mode (F.encoding v) contents ≡ F.encoding v
    explicit_contents e = rw e refl

    pub parse_of_one_encoding : (rules : EncodingRules) (p : ℕ) (c : List ℕ) → accepts_one_encoding F.accepts mode rules v c → Fits c → one_encoding F.parse rules p c ≡ Ok (contents_of_mode mode (F.encoding v) contents)
    parse_of_one_encoding rules p c a fits = parse_one_encoding rules v p c a.1 fits ∙ ap Ok (sym (explicit_contents a.0))

    pub same_length_one_encoding : (rules : EncodingRules) (c : List ℕ) → accepts_one_encoding F.accepts mode rules v c → length (contents_of_mode mode (F.encoding v) contents) ≡ length c
    same_length_one_encoding rules c a = ap length (explicit_contents a.0) ∙ F.same_length rules v c a.1

    pub accepts_own_encoding : (rules : EncodingRules) → (mode ≡ Explicit) × F.readable v → accepts_one_encoding F.accepts mode rules v (contents_of_mode mode (F.encoding v) contents)
    accepts_own_encoding rules r =
        (r.0, subst (F.accepts rules v) (sym (explicit_contents r.0)) (F.accepts_encoding rules v r.1))

  -- two values with explicit tagging are comparable if the values in them are
  pub comparable_explicit_tagged : (tag_of : T → Tag) (mode other : TagMode) (v w : T) → mode ≡ Explicit → other ≡ Explicit → F.comparable v w → ComparableTagged F.comparable tag_of mode other v w
  comparable_explicit_tagged tag_of mode other v w e f one =
      record { same_mode = e ∙ sym f; comparable = one; same_tag = λ i. let k = sym e ∙ i in absurd (cc) }

-- each error is an error in the octets, if this holds for the value
all_of_octets : (p len : ℕ) (r : Result (ℕ × List ℕ) ErrorKind) → IsOfOctets r → IsOfOctets (all_of p len r)
all_of_octets p len (Ok (n, encoding)) h = of_octets_either (n == len) (Ok encoding) (Err (TrailingData (p + n) (len - n))) tt refl
all_of_octets p len (Err k) h = h

module _ (parse : Parse) (of_octets : (rules : EncodingRules) (p : ℕ) (c : List ℕ) → IsOfOctets (parse rules p c)) where
  pub one_encoding_of_octets : (rules : EncodingRules) (p : ℕ) (octets : List ℕ) → IsOfOctets (one_encoding parse rules p octets)
  one_encoding_of_octets rules p octets = all_of_octets p (length octets) (parse rules p octets) (of_octets rules p octets)

  with_header_of_octets : (bits : ℕ) (rules : EncodingRules) (p : ℕ) (octets : List ℕ) (r : Result (ℕ × Header) ErrorKind) → IsOfOctets r → IsOfOctets (explicit_with_header bits parse rules p octets r)
  with_header_of_octets bits rules p octets (Err k) h = h
  with_header_of_octets bits rules p octets (Ok (count, header)) h =
      of_octets_either (is_constructed header.tag) _ _ (of_octets_either (in_class bits header.tag) _ _ (contents_of_octets header.tag (one_encoding parse) one_encoding_of_octets rules count (p + count) header.length (drop count octets)) refl) refl

  pub explicit_of_octets : (bits : ℕ) (rules : EncodingRules) (p : ℕ) (octets : List ℕ) → IsOfOctets (parse_explicit bits parse rules p octets)
  unfolding parse_explicit
  explicit_of_octets bits rules p octets = with_header_of_octets bits rules p octets (read_header p octets) (header_of_octets_read p octets)

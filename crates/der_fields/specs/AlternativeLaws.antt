-- The laws of a CHOICE, from the laws of its alternatives.
use Rattle.std.proofs.Common.{◌≡◌, ℕ, ◌<◌, IsTrue, ◌↔◌, List, [], ◌∷◌, ◌++◌, length, Bool, true, false, ◌||◌, Option, Some, None, Result, Ok, Err, refl, sym, ap, ◌∙◌, arith, append_assoc, subst}
use Rattle.std.proofs.lemmas.Bool.{or_left, or_right}
use Rattle.der_tlv.specs.declared.encoding_rules.EncodingRules.{EncodingRules}
use Rattle.der_tlv.specs.declared.error.ErrorKind.{ErrorKind}
use Rattle.der_tlv.specs.declared.error.ErrorKind.TheVariants.{TagUnexpected}
use Rattle.der_tlv.specs.declared.tag.Tag.{Tag}
use Rattle.der_tlv.specs.HeaderOctets.{tlv}
use Rattle.der_tlv.specs.HeaderReading.{read_tag}
use Rattle.der_tlv.specs.Identifier.{identifier}
use Rattle.der_tlv.specs.OctetFaults.{IsOfOctets, of_octets_either, tag_of_octets_read}
use Rattle.der_tlv.specs.TagReadingLaws.{read_tag-identifier}
use Rattle.der_elem.specs.declared.form.Form as form
use Rattle.der_elem.specs.Accepting.{Fits, BeginsWith, IsTlv, MayFollow}
use Rattle.der_elem.specs.FirstTags.{HasFirstTag, BeginsWithFirst, Starts}
use Rattle.der_fields.specs.declared.one_of.OneOf.{OneOf}
use Rattle.der_fields.specs.declared.one_of.OneOf.TheVariants.{First, Other}
use Rattle.der_elem.specs.FirstTagLaws.{begins_with_tag_some}
use Rattle.der_fields.specs.FieldLaws.{follows_some}
use Rattle.der_fields.specs.DistinguishingLaws.{same_first_tag}
use Rattle.der_fields.specs.Alternatives.{TagIs, of_one, AcceptsOne, ReadableOne, ComparableOne, IsCopyOne, parse_by_tag, parse_one}

-- the errors are errors of the octets, if those of both alternatives are
by_tag_of_octets : (tags tags' : Tag → Bool) (first other : Result (ℕ × List ℕ) ErrorKind) → IsOfOctets first → IsOfOctets other → (next : Result (ℕ × Tag) ErrorKind) → IsOfOctets next → IsOfOctets (parse_by_tag tags tags' first other next)
by_tag_of_octets tags tags' first other a b (Err k) h = h
by_tag_of_octets tags tags' first other a b (Ok (count, tag)) h =
    of_octets_either (tags tag) first _ a (of_octets_either (tags' tag) other (Err (TagUnexpected None tag)) b refl)

pub one_of_octets : {T U : Type 0} (F : form.Ghosts T) (G : form.Ghosts U) (rules : EncodingRules) (p : ℕ) (octets : List ℕ) → IsOfOctets (parse_one F.tags G.tags F.parse G.parse rules p octets)
one_of_octets F G rules p octets =
    by_tag_of_octets F.tags G.tags (F.parse rules p octets) (G.parse rules p octets) (F.faults_of_octets rules p octets) (G.faults_of_octets rules p octets) (read_tag p octets) (tag_of_octets_read p octets)

-- the next tag is one of these, or none of them
pub record NextIs (tags : Tag → Bool) (one : Bool) (p : ℕ) (octets : List ℕ) : Type 0 where
  pub tag : Tag
  pub count : ℕ
  pub is_next : read_tag p octets ≡ Ok (count, tag)
  pub is_one : tags tag ≡ one

next_is : (tags : Tag → Bool) (one : Bool) (first_tag : Option Tag) (p : ℕ) (b x : List ℕ) → TagIs tags one first_tag → BeginsWithFirst first_tag b → NextIs tags one p (b ++ x)
next_is tags one None p b x h l = absurd h
next_is tags one (Some t) p b x h l =
    record {
      tag = t;
      count = length (identifier t);
      is_next = ap (read_tag p) (ap (λ o. o ++ x) l.octets_are ∙ append_assoc (identifier t) l.others x) ∙ read_tag-identifier t p (l.others ++ x) l.is_tag;
      is_one = h;
    }

some_octets : (tags : Tag → Bool) (one : Bool) (first_tag : Option Tag) (b : List ℕ) → TagIs tags one first_tag → BeginsWithFirst first_tag b → 0 < length b
some_octets tags one None b h l = absurd h
some_octets tags one (Some t) b h l = begins_with_tag_some l

-- the tag that accepted octets begin with is one of these
own_next : (tags : Tag → Bool) (p : ℕ) (b x : List ℕ) → BeginsWith tags true b → NextIs tags true p (b ++ x)
own_next tags p b x h =
    record {
      tag = h.tag;
      count = length (identifier h.tag);
      is_next = ap (read_tag p) (ap (λ o. o ++ x) h.octets_are ∙ append_assoc (identifier h.tag) h.others x) ∙ read_tag-identifier h.tag p (h.others ++ x) h.is_tag;
      is_one = h.is_one;
    }

begins_some : {T : Type 0} (F : form.Ghosts T) (rules : EncodingRules) (v : T) (b : List ℕ) → F.accepts rules v b → 0 < length b → BeginsWith F.tags true b
begins_some F rules v [] a h = absurd (omega arith)
begins_some F rules v (z ∷ b) a h = F.begins rules v z b a

abbrev tag_or : Tag → Result (ℕ × Tag) ErrorKind → Tag
tag_or t (Err k) = t
tag_or t (Ok (count, u)) = u

-- the tag selects the alternative
first_parsed : (tags tags' : Tag → Bool) (p : ℕ) (octets : List ℕ) (first other : _) → NextIs tags true p octets → parse_by_tag tags tags' first other (read_tag p octets) ≡ first
first_parsed tags tags' p octets first other n = rw (n.is_next, n.is_one) refl

other_parsed : (tags tags' : Tag → Bool) (p : ℕ) (octets : List ℕ) (first other : _) → NextIs tags false p octets → NextIs tags' true p octets → parse_by_tag tags tags' first other (read_tag p octets) ≡ other
other_parsed tags tags' p octets first other n m =
    let own : tags' n.tag ≡ true = ap (λ r. tags' (tag_or n.tag r)) (sym n.is_next ∙ m.is_next) ∙ m.is_one in
    rw (n.is_next, n.is_one, own) refl

more_tags : (tags more : Tag → Bool) (b : List ℕ) → ((t : Tag) → tags t ≡ true → more t ≡ true) → BeginsWith tags true b → BeginsWith more true b
more_tags tags more b f h = record { tag = h.tag; others = h.others; octets_are = h.octets_are; is_tag = h.is_tag; is_one = f h.tag h.is_one }

module _ {A B : Type 0} (F : form.Ghosts A) (G : form.Ghosts B) (rules : EncodingRules) where
  pub parse_of_one : (v : OneOf A B) (p : ℕ) (b x : List ℕ) → AcceptsOne F.tags F.first_tag_of G.first_tag_of (F.accepts rules) (G.accepts rules) v b → Fits b → MayFollow (λ t. F.tags t || G.tags t) b x → parse_one F.tags G.tags F.parse G.parse rules p (b ++ x) ≡ Ok (length b, of_one F.encoding G.encoding v)
  parse_of_one (First v) p b x a fits follows =
      let l = F.begins_first rules v b a.0 in
      let some = some_octets F.tags true (F.first_tag_of v) b a.1 l in
      first_parsed F.tags G.tags p (b ++ x) (F.parse rules p (b ++ x)) (G.parse rules p (b ++ x)) (next_is F.tags true (F.first_tag_of v) p b x a.1 l) ∙ F.parse_of_accepted rules v p b x a.0 fits (follows_some F.tags b x some)
  parse_of_one (Other w) p b x a fits follows =
      let l = G.begins_first rules w b a.0 in
      let some = some_octets F.tags false (G.first_tag_of w) b a.1 l in
      let own = own_next G.tags p b x (begins_some G rules w b a.0 some) in
      other_parsed F.tags G.tags p (b ++ x) (F.parse rules p (b ++ x)) (G.parse rules p (b ++ x)) (next_is F.tags false (G.first_tag_of w) p b x a.1 l) own ∙ G.parse_of_accepted rules w p b x a.0 fits (follows_some G.tags b x some)

  pub begins_one : (v : OneOf A B) (z : ℕ) (b : List ℕ) → AcceptsOne F.tags F.first_tag_of G.first_tag_of (F.accepts rules) (G.accepts rules) v (z ∷ b) → BeginsWith (λ t. F.tags t || G.tags t) true (z ∷ b)
  begins_one (First v) z b a = more_tags F.tags (λ t. F.tags t || G.tags t) (z ∷ b) (λ t. or_left (F.tags t) (G.tags t)) (F.begins rules v z b a.0)
  begins_one (Other w) z b a = more_tags G.tags (λ t. F.tags t || G.tags t) (z ∷ b) (λ t. or_right (F.tags t) (G.tags t)) (G.begins rules w z b a.0)

  pub begins_first_one : (v : OneOf A B) (b : List ℕ) → AcceptsOne F.tags F.first_tag_of G.first_tag_of (F.accepts rules) (G.accepts rules) v b → BeginsWithFirst (of_one F.first_tag_of G.first_tag_of v) b
  begins_first_one (First v) b a = F.begins_first rules v b a.0
  begins_first_one (Other w) b a = G.begins_first rules w b a.0

  pub same_length_one : (v : OneOf A B) (b : List ℕ) → AcceptsOne F.tags F.first_tag_of G.first_tag_of (F.accepts rules) (G.accepts rules) v b → length (of_one F.encoding G.encoding v) ≡ length b
  same_length_one (First v) b a = F.same_length rules v b a.0
  same_length_one (Other w) b a = G.same_length rules w b a.0

  pub accepts_one_encoding : (v : OneOf A B) → ReadableOne F.tags F.first_tag_of G.first_tag_of F.readable G.readable v → AcceptsOne F.tags F.first_tag_of G.first_tag_of (F.accepts rules) (G.accepts rules) v (of_one F.encoding G.encoding v)
  accepts_one_encoding (First v) (r, h) = (F.accepts_encoding rules v r, h)
  accepts_one_encoding (Other w) (r, h) = (G.accepts_encoding rules w r, h)

  pub readable_of_one : (v : OneOf A B) (b : List ℕ) → AcceptsOne F.tags F.first_tag_of G.first_tag_of (F.accepts rules) (G.accepts rules) v b → ReadableOne F.tags F.first_tag_of G.first_tag_of F.readable G.readable v
  readable_of_one (First v) b (a, h) = (F.only_readable rules v b a, h)
  readable_of_one (Other w) b (a, h) = (G.only_readable rules w b a, h)

  pub comparable_of_one : (v x : OneOf A B) (b c : List ℕ) → AcceptsOne F.tags F.first_tag_of G.first_tag_of (F.accepts rules) (G.accepts rules) v b → AcceptsOne F.tags F.first_tag_of G.first_tag_of (F.accepts rules) (G.accepts rules) x c → ComparableOne F.tags F.first_tag_of G.first_tag_of F.comparable G.comparable v x
  comparable_of_one (First v) (First x) b c (a, h) (d, k) = F.accepts_comparable rules v x b c a d
  comparable_of_one (Other w) (Other y) b c (a, h) (d, k) = G.accepts_comparable rules w y b c a d
  comparable_of_one (First v) (Other w) b c (a, h) (d, k) = (h, k)
  comparable_of_one (Other w) (First v) b c (a, h) (d, k) = (k, h)

-- the CHOICE has a property if either alternative has it
pub test_of_one : {A B : Type 0} (test : A → Bool) (test' : B → Bool) (p q : Bool) → ((v : A) → test v ≡ true → p ≡ true) → ((w : B) → test' w ≡ true → q ≡ true) → (v : OneOf A B) → of_one test test' v ≡ true → (p || q) ≡ true
test_of_one test test' p q f g (First v) h = or_left p q (f v h)
test_of_one test test' p q f g (Other w) h = or_right p q (g w h)

pub test_alike : {A B : Type 0} (test more : A → Bool) (test' more' : B → Bool) → ((v : A) → test v ≡ true → more v ≡ true) → ((w : B) → test' w ≡ true → more' w ≡ true) → (v : OneOf A B) → of_one test test' v ≡ true → of_one more more' v ≡ true
test_alike test more test' more' f g (First v) h = f v h
test_alike test more test' more' f g (Other w) h = g w h

pub encoding_is_one : {A B : Type 0} (tag_of : A → Tag) (tag_of' : B → Tag) (contents encoding : A → List ℕ) (contents' encoding' : B → List ℕ) → ((v : A) → encoding v ≡ tlv (tag_of v) (contents v)) → ((w : B) → encoding' w ≡ tlv (tag_of' w) (contents' w)) → (v : OneOf A B) → of_one encoding encoding' v ≡ tlv (of_one tag_of tag_of' v) (of_one contents contents' v)
encoding_is_one tag_of tag_of' contents encoding contents' encoding' f g (First v) = f v
encoding_is_one tag_of tag_of' contents encoding contents' encoding' f g (Other w) = g w

pub first_tag_is_one : {A B : Type 0} (tag_of : A → Tag) (tag_of' : B → Tag) (first_tag : A → Option Tag) (first_tag' : B → Option Tag) → ((v : A) → first_tag v ≡ Some (tag_of v)) → ((w : B) → first_tag' w ≡ Some (tag_of' w)) → (v : OneOf A B) → of_one first_tag first_tag' v ≡ Some (of_one tag_of tag_of' v)
first_tag_is_one tag_of tag_of' first_tag first_tag' f g (First v) = f v
first_tag_is_one tag_of tag_of' first_tag first_tag' f g (Other w) = g w

pub own_tag_one : {A B : Type 0} (tags tags' : Tag → Bool) (tag_of : A → Tag) (tag_of' : B → Tag) → ((v : A) → tags (tag_of v) ≡ true) → ((w : B) → tags' (tag_of' w) ≡ true) → (v : OneOf A B) → (tags (of_one tag_of tag_of' v) || tags' (of_one tag_of tag_of' v)) ≡ true
own_tag_one tags tags' tag_of tag_of' f g (First v) = or_left (tags (tag_of v)) (tags' (tag_of v)) (f v)
own_tag_one tags tags' tag_of tag_of' f g (Other w) = or_right (tags (tag_of' w)) (tags' (tag_of' w)) (g w)

pub has_first_tag_one : {A B : Type 0} (first_tag : A → Option Tag) (first_tag' : B → Option Tag) → ((v : A) → HasFirstTag (first_tag v)) → ((w : B) → HasFirstTag (first_tag' w)) → (v : OneOf A B) → HasFirstTag (of_one first_tag first_tag' v)
has_first_tag_one first_tag first_tag' f g (First v) = f v
has_first_tag_one first_tag first_tag' f g (Other w) = g w

pub is_tlv_one : {A B : Type 0} (F : form.Ghosts A) (G : form.Ghosts B) → ((rules : EncodingRules) (v : A) (b : List ℕ) → F.accepts rules v b → IsTlv b) → ((rules : EncodingRules) (w : B) (b : List ℕ) → G.accepts rules w b → IsTlv b) → (rules : EncodingRules) (v : OneOf A B) (b : List ℕ) → AcceptsOne F.tags F.first_tag_of G.first_tag_of (F.accepts rules) (G.accepts rules) v b → IsTlv b
is_tlv_one F G f g rules (First v) b a = f rules v b a.0
is_tlv_one F G f g rules (Other w) b a = g rules w b a.0

-- two tags are different if one of them is one of these and the other is not
pub tags_differ : (tags : Tag → Bool) (l m : Option Tag) → TagIs tags true l → TagIs tags false m → l ≡ m → ⊥
tags_differ tags None m h k e = h
tags_differ tags (Some t) m h k e = let other : tags t ≡ false = subst (TagIs tags false) (sym e) k in absurd (cc)

-- values are equal exactly if their encodings are: the encodings of two alternatives begin with different tags
module _ {A B : Type 0} (F : form.Ghosts A) (G : form.Ghosts B) (eq : A → A → Bool) (eq' : B → B → Bool) (encoding_eq : (v x : A) → F.comparable v x → IsTrue (eq v x) ↔ (F.encoding v ≡ F.encoding x)) (encoding_eq' : (w y : B) → G.comparable w y → IsTrue (eq' w y) ↔ (G.encoding w ≡ G.encoding y)) (starts : (v : A) → Starts (F.first_tag_of v) (F.encoding v)) (starts' : (w : B) → Starts (G.first_tag_of w) (G.encoding w)) where
  apart : (v : A) (w : B) → TagIs F.tags true (F.first_tag_of v) → TagIs F.tags false (G.first_tag_of w) → F.encoding v ≡ G.encoding w → ⊥
  apart v w h k e = tags_differ F.tags (F.first_tag_of v) (G.first_tag_of w) h k (same_first_tag (F.first_tag_of v) (G.first_tag_of w) (F.encoding v) (G.encoding w) (starts v) (starts' w) e)

  pub encoding_eq_one : (eq_one : OneOf A B → OneOf A B → Bool) → ((v x : A) → eq_one (First v) (First x) ≡ eq v x) → ((w y : B) → eq_one (Other w) (Other y) ≡ eq' w y) → ((v : A) (w : B) → eq_one (First v) (Other w) ≡ false) → ((w : B) (v : A) → eq_one (Other w) (First v) ≡ false) → (v x : OneOf A B) → ComparableOne F.tags F.first_tag_of G.first_tag_of F.comparable G.comparable v x → IsTrue (eq_one v x) ↔ (of_one F.encoding G.encoding v ≡ of_one F.encoding G.encoding x)
  encoding_eq_one eq_one same same' other other' (First v) (First x) one = subst (λ b. IsTrue b ↔ (F.encoding v ≡ F.encoding x)) (sym (same v x)) (encoding_eq v x one)
  encoding_eq_one eq_one same same' other other' (Other w) (Other y) one = subst (λ b. IsTrue b ↔ (G.encoding w ≡ G.encoding y)) (sym (same' w y)) (encoding_eq' w y one)
  encoding_eq_one eq_one same same' other other' (First v) (Other w) (h, k) =
      (λ e. absurd (let f = other v w in cc), λ e. absurd (apart v w h k e))
  encoding_eq_one eq_one same same' other other' (Other w) (First v) (h, k) =
      (λ e. absurd (let f = other' w v in cc), λ e. absurd (apart v w h k (sym e)))

module _ {A B : Type 0} (F : form.Ghosts A) (G : form.Ghosts B) (is_copy : A → A → Type 0) (is_copy' : B → B → Type 0) (copy_encoding : (v x : A) → is_copy v x → F.encoding x ≡ F.encoding v) (copy_encoding' : (w y : B) → is_copy' w y → G.encoding y ≡ G.encoding w) where
  pub copy_encoding_one : (v x : OneOf A B) → IsCopyOne is_copy is_copy' v x → of_one F.encoding G.encoding x ≡ of_one F.encoding G.encoding v
  copy_encoding_one (First v) (First x) c = copy_encoding v x c
  copy_encoding_one (Other w) (Other y) c = copy_encoding' w y c
  copy_encoding_one (First v) (Other y) c = absurd c
  copy_encoding_one (Other w) (First x) c = absurd c

  pub copy_re_reads_one : ((v x : A) → is_copy v x → F.re_reads x ≡ F.re_reads v) → ((w y : B) → is_copy' w y → G.re_reads y ≡ G.re_reads w) → (v x : OneOf A B) → IsCopyOne is_copy is_copy' v x → of_one F.re_reads G.re_reads x ≡ of_one F.re_reads G.re_reads v
  copy_re_reads_one f g (First v) (First x) c = f v x c
  copy_re_reads_one f g (Other w) (Other y) c = g w y c
  copy_re_reads_one f g (First v) (Other y) c = absurd c
  copy_re_reads_one f g (Other w) (First x) c = absurd c

  module _ (starts : (v : A) → Starts (F.first_tag_of v) (F.encoding v)) (starts' : (w : B) → Starts (G.first_tag_of w) (G.encoding w)) (copy_comparable : (v x u : A) → is_copy v x → F.comparable v u → F.comparable x u) (copy_comparable' : (w y z : B) → is_copy' w y → G.comparable w z → G.comparable y z) where
    tag_kept : (one : Bool) (v x : A) → is_copy v x → TagIs F.tags one (F.first_tag_of v) → TagIs F.tags one (F.first_tag_of x)
    tag_kept one v x c h = subst (TagIs F.tags one) (same_first_tag (F.first_tag_of v) (F.first_tag_of x) (F.encoding v) (F.encoding x) (starts v) (starts x) (sym (copy_encoding v x c))) h

    tag_kept' : (one : Bool) (w y : B) → is_copy' w y → TagIs F.tags one (G.first_tag_of w) → TagIs F.tags one (G.first_tag_of y)
    tag_kept' one w y c h = subst (TagIs F.tags one) (same_first_tag (G.first_tag_of w) (G.first_tag_of y) (G.encoding w) (G.encoding y) (starts' w) (starts' y) (sym (copy_encoding' w y c))) h

    pub copy_comparable_one : (v x u : OneOf A B) → IsCopyOne is_copy is_copy' v x → ComparableOne F.tags F.first_tag_of G.first_tag_of F.comparable G.comparable v u → ComparableOne F.tags F.first_tag_of G.first_tag_of F.comparable G.comparable x u
    copy_comparable_one (First v) (Other y) u c one = absurd c
    copy_comparable_one (Other w) (First x) u c one = absurd c
    copy_comparable_one (First v) (First x) (First u) c one = copy_comparable v x u c one
    copy_comparable_one (First v) (First x) (Other u) c (h, k) = (tag_kept true v x c h, k)
    copy_comparable_one (Other w) (Other y) (Other u) c one = copy_comparable' w y u c one
    copy_comparable_one (Other w) (Other y) (First u) c (h, k) = (h, tag_kept' false w y c k)

-- a copy is equal to its source, if copies of the alternatives are
pub copy_is_equal_one : {A B : Type 0} (is_copy : A → A → Type 0) (is_copy' : B → B → Type 0) (eq : OneOf A B → OneOf A B → Bool) → ((v x : A) → is_copy v x → IsTrue (eq (First v) (First x))) → ((w y : B) → is_copy' w y → IsTrue (eq (Other w) (Other y))) → (v w : OneOf A B) → IsCopyOne is_copy is_copy' v w → IsTrue (eq v w)
copy_is_equal_one is_copy is_copy' eq first other (First v) (First x) c = first v x c
copy_is_equal_one is_copy is_copy' eq first other (Other w) (Other y) c = other w y c
copy_is_equal_one is_copy is_copy' eq first other (First v) (Other w) c = absurd c
copy_is_equal_one is_copy is_copy' eq first other (Other w) (First v) c = absurd c

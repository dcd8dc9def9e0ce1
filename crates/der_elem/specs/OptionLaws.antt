-- The laws of values that may be absent, from those of the values.
use Rattle.std.proofs.Common.{◌≡◌, ℕ, List, [], ◌∷◌, ◌++◌, length, Bool, true, false, Option, Some, None, Result, Ok, Err, refl, sym, ap, ◌∙◌, append_assoc, IsTrue, ◌↔◌, arith}
use Rattle.std.specs.Option.{option_eq}
use Rattle.std.proofs.lemmas.List.{nil_from_length}
use Rattle.der_tlv.specs.declared.error.ErrorKind.{ErrorKind}
use Rattle.der_tlv.specs.declared.encoding_rules.EncodingRules.{EncodingRules}
use Rattle.der_tlv.specs.OctetFaults.{IsOfOctets, of_octets_either, tag_of_octets_read}
use Rattle.der_tlv.specs.declared.tag.Tag.{Tag}
use Rattle.der_tlv.specs.HeaderOctets.{tlv}
use Rattle.der_tlv.specs.Identifier.{identifier}
use Rattle.der_tlv.specs.HeaderReading.{read_tag}
use Rattle.der_tlv.specs.TagReadingLaws.{read_tag-identifier}
use Rattle.der_elem.specs.declared.form.Form as form
use Rattle.der_elem.specs.Accepting.{Fits, BeginsWith, MayFollow}
use Rattle.der_elem.specs.Parsing.{Parse}
use Rattle.der_elem.specs.FirstTags.{BeginsWithFirst}
use Rattle.der_elem.specs.OrderLaws.{encoding-some}
use Rattle.der_elem.specs.Options.{first_tag_option, encoding_option, comparable_option, test_option, accepts_option, readable_option, is_copy_option, parse_at_tag, parse_option}

module _ (tags : Tag → Bool) where
  -- the tag that octets begin with is the next tag
  next_tag : (one : Bool) (p : ℕ) (octets x : List ℕ) (h : BeginsWith tags one octets) → read_tag p (octets ++ x) ≡ Ok (length (identifier h.tag), h.tag)
  next_tag one p octets x h =
      ap (read_tag p) (ap (λ o. o ++ x) h.octets_are ∙ append_assoc (identifier h.tag) h.others x) ∙ read_tag-identifier h.tag p (h.others ++ x) h.is_tag

-- the errors are in the octets, if those of the value are
at_tag_of_octets : (tags : Tag → Bool) (parsed : Result (ℕ × List ℕ) ErrorKind) (next : Result (ℕ × Tag) ErrorKind) → IsOfOctets parsed → IsOfOctets next → IsOfOctets (parse_at_tag tags parsed next)
at_tag_of_octets tags parsed (Err k) h next = next
at_tag_of_octets tags parsed (Ok (count, tag)) h next = of_octets_either (tags tag) parsed (Ok (0, [])) h tt

pub option_of_octets : (tags : Tag → Bool) (parse : Parse) → ((rules : EncodingRules) (p : ℕ) (c : List ℕ) → IsOfOctets (parse rules p c)) → (rules : EncodingRules) (p : ℕ) (c : List ℕ) → IsOfOctets (parse_option tags parse rules p c)
option_of_octets tags parse h rules p [] = tt
option_of_octets tags parse h rules p (z ∷ octets) =
    at_tag_of_octets tags (parse rules p (z ∷ octets)) (read_tag p (z ∷ octets)) (h rules p (z ∷ octets)) (tag_of_octets_read p (z ∷ octets))

module _ {T : Type 0} (F : form.Ghosts T) (rules : EncodingRules) where
  absent : (p z : ℕ) (x : List ℕ) → BeginsWith F.tags false (z ∷ x) → parse_option F.tags F.parse rules p (z ∷ x) ≡ Ok (0, [])
  absent p z x h =
      let tag : read_tag p (z ∷ x) ≡ Ok (length (identifier h.tag), h.tag) = ap (read_tag p) h.octets_are ∙ read_tag-identifier h.tag p h.others h.is_tag in
      rw (tag, h.is_one) refl

  pub parse_of_option : (o : Option T) (p : ℕ) (b x : List ℕ) → accepts_option (F.accepts rules) o b → Fits b → MayFollow F.tags b x → parse_option F.tags F.parse rules p (b ++ x) ≡ Ok (length b, encoding_option F.encoding o)
  parse_of_option None p [] [] a fits follows = refl
  parse_of_option None p [] (z ∷ x) a fits follows = absent p z x follows
  parse_of_option None p (z ∷ b) x a fits follows = absurd (cc)
  parse_of_option (Some v) p [] [] a fits follows = ap (λ s. Ok (0, s)) (sym (nil_from_length (F.encoding v) (F.same_length rules v [] a)))
  parse_of_option (Some v) p [] (z ∷ x) a fits follows = absent p z x follows ∙ ap (λ s. Ok (0, s)) (sym (nil_from_length (F.encoding v) (F.same_length rules v [] a)))
  parse_of_option (Some v) p (z ∷ b) x a fits follows =
      let h = F.begins rules v z b a in
      let tag : read_tag p (z ∷ (b ++ x)) ≡ Ok (length (identifier h.tag), h.tag) = next_tag F.tags true p (z ∷ b) x h in
      rw (tag, h.is_one) (F.parse_of_accepted rules v p (z ∷ b) x a fits tt)

  pub begins_option : (o : Option T) (z : ℕ) (b : List ℕ) → accepts_option (F.accepts rules) o (z ∷ b) → BeginsWith F.tags true (z ∷ b)
  begins_option None z b a = absurd (cc)
  begins_option (Some v) z b a = F.begins rules v z b a

  pub begins_first_option : (o : Option T) (b : List ℕ) → accepts_option (F.accepts rules) o b → BeginsWithFirst (first_tag_option F.first_tag_of o) b
  begins_first_option None b a = a
  begins_first_option (Some v) b a = F.begins_first rules v b a

  pub same_length_option : (o : Option T) (b : List ℕ) → accepts_option (F.accepts rules) o b → length (encoding_option F.encoding o) ≡ length b
  same_length_option None b a = ap length (sym a)
  same_length_option (Some v) b a = F.same_length rules v b a

  pub accepts_option_encoding : (o : Option T) → readable_option F.readable o → accepts_option (F.accepts rules) o (encoding_option F.encoding o)
  accepts_option_encoding None r = refl
  accepts_option_encoding (Some v) r = F.accepts_encoding rules v r

  pub readable_of_option : (o : Option T) (b : List ℕ) → accepts_option (F.accepts rules) o b → readable_option F.readable o
  readable_of_option None b a = tt
  readable_of_option (Some v) b a = F.only_readable rules v b a

  pub comparable_of_option : (o q : Option T) (b c : List ℕ) → accepts_option (F.accepts rules) o b → accepts_option (F.accepts rules) q c → comparable_option F.comparable o q
  comparable_of_option None q b c a e = tt
  comparable_of_option (Some v) None b c a e = tt
  comparable_of_option (Some v) (Some w) b c a e = F.accepts_comparable rules v w b c a e

-- a copy is equal to its source, if copies of values are
pub copy_is_equal_option : {T : Type 0} (is_copy : T → T → Type 0) (eq : T → T → Bool) (same : (v w : T) → is_copy v w → IsTrue (eq v w)) (o q : Option T) → is_copy_option is_copy o q → IsTrue (option_eq eq o q)
copy_is_equal_option is_copy eq same None None c = refl
copy_is_equal_option is_copy eq same None (Some w) c = absurd c
copy_is_equal_option is_copy eq same (Some v) None c = absurd c
copy_is_equal_option is_copy eq same (Some v) (Some w) c = same v w c

module _ {T : Type 0} (F : form.Ghosts T) where
  pub re_reads_option : (o : Option T) → test_option F.re_reads o ≡ true → F.TAKES_MEMORY ≡ true
  re_reads_option None h = absurd (cc)
  re_reads_option (Some v) h = F.re_reads_memory v h

  pub copy_encoding_option : (is_copy : T → T → Type 0) (copy_encoding : (v w : T) → is_copy v w → F.encoding w ≡ F.encoding v) (o q : Option T) → is_copy_option is_copy o q → encoding_option F.encoding q ≡ encoding_option F.encoding o
  copy_encoding_option is_copy same None None c = refl
  copy_encoding_option is_copy same None (Some w) c = absurd c
  copy_encoding_option is_copy same (Some v) None c = absurd c
  copy_encoding_option is_copy same (Some v) (Some w) c = same v w c

  pub copy_comparable_option : (is_copy : T → T → Type 0) (copy_comparable : (v w x : T) → is_copy v w → F.comparable v x → F.comparable w x) (o q r : Option T) → is_copy_option is_copy o q → comparable_option F.comparable o r → comparable_option F.comparable q r
  copy_comparable_option is_copy same None None r c h = tt
  copy_comparable_option is_copy same None (Some w) r c h = absurd c
  copy_comparable_option is_copy same (Some v) None r c h = absurd c
  copy_comparable_option is_copy same (Some v) (Some w) None c h = tt
  copy_comparable_option is_copy same (Some v) (Some w) (Some x) c h = same v w x c h

  pub copy_re_reads_option : (is_copy : T → T → Type 0) (copy_re_reads : (v w : T) → is_copy v w → F.re_reads w ≡ F.re_reads v) (o q : Option T) → is_copy_option is_copy o q → test_option F.re_reads q ≡ test_option F.re_reads o
  copy_re_reads_option is_copy same None None c = refl
  copy_re_reads_option is_copy same None (Some w) c = absurd c
  copy_re_reads_option is_copy same (Some v) None c = absurd c
  copy_re_reads_option is_copy same (Some v) (Some w) c = same v w c

module _ {T : Type 0} (tag_of : T → Tag) (contents encoding : T → List ℕ) (encoding_is : (v : T) → encoding v ≡ tlv (tag_of v) (contents v)) (comparable : T → T → Type 0) (eq : T → T → Bool) (encoding_eq : (v w : T) → comparable v w → IsTrue (eq v w) ↔ (encoding v ≡ encoding w)) where
  -- options are equal exactly if their encodings are: an absent value has no octets, and a present value has some
  pub encoding_eq_option : (o q : Option T) → comparable_option comparable o q → IsTrue (option_eq eq o q) ↔ (encoding_option encoding o ≡ encoding_option encoding q)
  encoding_eq_option None None h = (λ _. refl, λ _. refl)
  encoding_eq_option None (Some w) h = (λ e. absurd (cc), λ e. let some = encoding-some tag_of contents encoding encoding_is w in absurd (omega (arith, ap length e)))
  encoding_eq_option (Some v) None h = (λ e. absurd (cc), λ e. let some = encoding-some tag_of contents encoding encoding_is v in absurd (omega (arith, ap length e)))
  encoding_eq_option (Some v) (Some w) h = encoding_eq v w h

-- The laws of encodings with one tag, from those of their contents octets.
use Rattle.std.proofs.Common.{◌≡◌, ℕ, ◌+◌, List, ◌∷◌, ◌++◌, length, take, drop, nat_lt, true, Result, Ok, Err, refl, sym, ap, ◌∙◌, arith, subst, append_assoc, ◌↔◌, Bool, IsTrue}
use Rattle.std.proofs.lemmas.List.{length-append}
use Rattle.std.proofs.Math.Seq.{take-append_seam, drop-append_seam}
use Rattle.der_tlv.specs.declared.encoding_rules.EncodingRules.{EncodingRules}
use Rattle.der_tlv.specs.declared.error.ErrorKind.{ErrorKind}
use Rattle.der_tlv.specs.declared.header.Header.{Header}
use Rattle.der_tlv.specs.declared.tag.Tag.{Tag}
use Rattle.der_tlv.specs.TagParts.{IsTag}
use Rattle.der_tlv.specs.Identifier.{identifier, same_identifier}
use Rattle.der_tlv.specs.LengthOctets.{length_octets}
use Rattle.der_tlv.specs.LengthLaws.{not_short}
use Rattle.der_tlv.specs.HeaderOctets.{header_octets, tlv}
use Rattle.der_tlv.specs.HeaderReading.{read_header}
use Rattle.der_tlv.specs.OctetFaults.{IsOfOctets, of_octets_either, of_octets_missing, header_of_octets_read}
use Rattle.der_tlv.specs.HeaderLaws.{read_header-octets, same_identifier-same, tlv-injective}
use Rattle.der_elem.specs.Parsing.{ContentsParse, parse_tagged, parse_with_tag, parse_contents, tagged_contents}
use Rattle.der_elem.specs.Accepting.{Fits, BeginsWith, IsTlv, MayFollow, accepts_tagged}

-- contents are no longer than their encoding
pub contents_fit : (t : Tag) (c : List ℕ) → Fits (tlv t c) → Fits c
contents_fit t c h = omega (arith, length-append (header_octets t (length c)) c)

-- an encoding is parsed by its contents octets, whatever follows it
pub parse_tagged-tlv : (t : Tag) (parse : ContentsParse) (rules : EncodingRules) (p : ℕ) (c d x : List ℕ) → IsTag t → Fits (tlv t c) → ((p : ℕ) → parse rules p c ≡ Ok d) → parse_tagged t parse rules p (tlv t c ++ x) ≡ Ok (length (tlv t c), tlv t d)
unfolding parse_tagged
parse_tagged-tlv t parse rules p c d x is_tag fits parsed =
    let h = header_octets t (length c) in
    let regroup : tlv t c ++ x ≡ h ++ (c ++ x) = append_assoc h c x in
    let head = read_header-octets t (length c) p (c ++ x) is_tag (contents_fit t c fits) in
    ap (parse_tagged t parse rules p) regroup ∙ ap (parse_with_tag t parse rules p (h ++ (c ++ x))) head ∙ rw (same_identifier-same t, drop-append_seam h (c ++ x), not_short c x, take-append_seam c x, parsed (p + length h)) (ap (λ n. Ok (n, tlv t d)) (sym (length-append h c)))

module _ {T : Type 0} (t : Tag) (is_tag : IsTag t) (accepts : EncodingRules → T → List ℕ → Type 0) (contents : T → List ℕ) (parse : ContentsParse) (parse_of_accepted : (rules : EncodingRules) (v : T) (p : ℕ) (c : List ℕ) → accepts rules v c → Fits c → parse rules p c ≡ Ok (contents v)) where
  pub parse_of_tagged : (rules : EncodingRules) (v : T) (p : ℕ) (b x : List ℕ) → accepts_tagged t accepts rules v b → Fits b → MayFollow (λ u. same_identifier u t) b x → parse_tagged t parse rules p (b ++ x) ≡ Ok (length b, tlv t (contents v))
  parse_of_tagged rules v p b x (c, e, a) fits follows =
      let fits' : Fits (tlv t c) = subst Fits e fits in
      subst (λ b. parse_tagged t parse rules p (b ++ x) ≡ Ok (length b, tlv t (contents v))) (sym e) (parse_tagged-tlv t parse rules p c (contents v) x is_tag fits' (λ p. parse_of_accepted rules v p c a (contents_fit t c fits')))

-- the errors of an encoding are in its octets, if those of its contents octets are
module _ (t : Tag) (parse : ContentsParse) (of_octets : (rules : EncodingRules) (p : ℕ) (c : List ℕ) → IsOfOctets (parse rules p c)) where
  value_of_octets : (n : ℕ) (r : Result (List ℕ) ErrorKind) → IsOfOctets r → IsOfOctets (tagged_contents t n r)
  value_of_octets n (Ok contents) h = tt
  value_of_octets n (Err k) h = h

  pub contents_of_octets : (rules : EncodingRules) (count p n : ℕ) (octets : List ℕ) → IsOfOctets (parse_contents t parse rules count p n octets)
  contents_of_octets rules count p n octets =
      of_octets_either (nat_lt (length octets) n) _ _ (of_octets_missing p n (length octets)) (value_of_octets (count + n) _ (of_octets rules p (take n octets)))

  with_tag_of_octets : (rules : EncodingRules) (p : ℕ) (octets : List ℕ) (r : Result (ℕ × Header) ErrorKind) → IsOfOctets r → IsOfOctets (parse_with_tag t parse rules p octets r)
  with_tag_of_octets rules p octets (Err k) h = h
  with_tag_of_octets rules p octets (Ok (count, header)) h =
      of_octets_either (same_identifier header.tag t) _ _ (contents_of_octets rules count (p + count) header.length (drop count octets)) refl

  pub tagged_of_octets : (rules : EncodingRules) (p : ℕ) (octets : List ℕ) → IsOfOctets (parse_tagged t parse rules p octets)
  unfolding parse_tagged
  tagged_of_octets rules p octets = with_tag_of_octets rules p octets (read_header p octets) (header_of_octets_read p octets)

pub begins_tagged : {T : Type 0} (t : Tag) (is_tag : IsTag t) (accepts : EncodingRules → T → List ℕ → Type 0) (rules : EncodingRules) (v : T) (z : ℕ) (b : List ℕ) → accepts_tagged t accepts rules v (z ∷ b) → BeginsWith (λ u. same_identifier u t) true (z ∷ b)
begins_tagged t is_tag accepts rules v z b (c, e, a) =
    record { tag = t; others = length_octets (length c) ++ c; octets_are = e ∙ append_assoc (identifier t) (length_octets (length c)) c; is_tag = is_tag; is_one = same_identifier-same t }

-- accepted octets have the tag, a length and contents
pub tlv_tagged : {T : Type 0} (t : Tag) (accepts : EncodingRules → T → List ℕ → Type 0) (rules : EncodingRules) (v : T) (b : List ℕ) → accepts_tagged t accepts rules v b → IsTlv b
tlv_tagged t accepts rules v b (c, e, a) = record { tag = t; contents = c; octets_are = e }

-- encodings of contents of one length have one length
pub length-tlv : (t : Tag) (c d : List ℕ) → length c ≡ length d → length (tlv t c) ≡ length (tlv t d)
length-tlv t c d e =
    length-append (header_octets t (length c)) c ∙ ap (λ n. length (header_octets t n) + n) e ∙ sym (length-append (header_octets t (length d)) d)

module _ {T : Type 0} (t : Tag) (accepts : EncodingRules → T → List ℕ → Type 0) (contents : T → List ℕ) (same_length : (rules : EncodingRules) (v : T) (c : List ℕ) → accepts rules v c → length (contents v) ≡ length c) where
  pub same_length_tagged : (rules : EncodingRules) (v : T) (b : List ℕ) → accepts_tagged t accepts rules v b → length (tlv t (contents v)) ≡ length b
  same_length_tagged rules v b (c, e, a) = length-tlv t (contents v) c (same_length rules v c a) ∙ sym (ap length e)

module _ {T : Type 0} (t : Tag) (accepts : EncodingRules → T → List ℕ → Type 0) (contents : T → List ℕ) (readable : T → Type 0) (accepts_contents : (rules : EncodingRules) (v : T) → readable v → accepts rules v (contents v)) where
  pub accepts_tagged_encoding : (rules : EncodingRules) (v : T) → readable v → accepts_tagged t accepts rules v (tlv t (contents v))
  accepts_tagged_encoding rules v r = (contents v, refl, accepts_contents rules v r)

module _ {T : Type 0} (t : Tag) (accepts : EncodingRules → T → List ℕ → Type 0) (readable : T → Type 0) (only : (rules : EncodingRules) (v : T) (c : List ℕ) → accepts rules v c → readable v) where
  pub readable_tagged : (rules : EncodingRules) (v : T) (b : List ℕ) → accepts_tagged t accepts rules v b → readable v
  readable_tagged rules v b (c, e, a) = only rules v c a

module _ {T : Type 0} (t : Tag) (accepts : EncodingRules → T → List ℕ → Type 0) (comparable : T → T → Type 0) (accepts_comparable : (rules : EncodingRules) (v w : T) (c d : List ℕ) → accepts rules v c → accepts rules w d → comparable v w) where
  pub comparable_tagged : (rules : EncodingRules) (v w : T) (b c : List ℕ) → accepts_tagged t accepts rules v b → accepts_tagged t accepts rules w c → comparable v w
  comparable_tagged rules v w b c (d, e, a) (f, g, h) = accepts_comparable rules v w d f a h

module _ {T : Type 0} (t : Tag) (contents : T → List ℕ) (comparable : T → T → Type 0) (eq : T → T → Bool) (contents_eq : (v w : T) → comparable v w → IsTrue (eq v w) ↔ (contents v ≡ contents w)) where
  pub encoding_eq_tagged : (v w : T) → comparable v w → IsTrue (eq v w) ↔ (tlv t (contents v) ≡ tlv t (contents w))
  encoding_eq_tagged v w one =
      (λ e. ap (tlv t) ((contents_eq v w one).0 e), λ e. (contents_eq v w one).1 (tlv-injective t t (contents v) (contents w) e).1)

-- No encoding is a prefix of another, so the first items that differ decide the order of two lists (X.690 11.6).
use Rattle.std.proofs.Common.{◌≡◌, ℕ, ◌<◌, List, [], ◌∷◌, ◌++◌, length, refl, sym, ap, ◌∙◌, arith, subst, flat_map}
use Rattle.std.specs.declared.cmp.Ordering.TheVariants.{Less, Greater}
use Rattle.std.specs.Ordering.{ordering_then, on}
use Rattle.std.specs.Cmp.Lexicographic.{slice_cmp}
use Rattle.std.proofs.lemmas.List.{length-append, append-nil}
use Rattle.der_tlv.specs.declared.encoding_rules.EncodingRules.{EncodingRules}
use Rattle.der_tlv.specs.declared.tag.Tag.{Tag}
use Rattle.der_tlv.specs.Octets.{lex}
use Rattle.der_tlv.specs.OctetLaws.{SameBeginning, lex-append}
use Rattle.der_tlv.specs.Identifier.{identifier}
use Rattle.der_tlv.specs.IdentifierLaws.{length-identifier-positive}
use Rattle.der_tlv.specs.LengthOctets.{length_octets}
use Rattle.der_tlv.specs.HeaderOctets.{header_octets, tlv}
use Rattle.der_tlv.specs.HeaderLaws.{tlv-unique}
use Rattle.der_elem.specs.declared.form.Form as form
use Rattle.der_elem.specs.Accepting.{IsTlv}

pub length-tlv-positive : (t : Tag) (c : List ℕ) → 0 < length (tlv t c)
length-tlv-positive t c = omega (arith, length-append (header_octets t (length c)) c, length-append (identifier t) (length_octets (length c)), length-identifier-positive t)

-- no encoding is a proper prefix of another
pub tlv-beginning : (t u : Tag) (c d : List ℕ) → SameBeginning (tlv t c) (tlv u d)
tlv-beginning t u c d = record {
  same = λ x y e. let same = tlv-unique t u c d x y e in ap (λ t. tlv t c) same.0 ∙ ap (tlv u) same.1;
}

-- if octets are an encoding both with and without the octets after them, there are no octets after them
pub nothing_after : (octets more : List ℕ) → IsTlv octets → IsTlv (octets ++ more) → more ≡ []
nothing_after octets more a b =
    let e : tlv a.tag a.contents ++ more ≡ tlv b.tag b.contents ++ [] = ap (λ o. o ++ more) (sym a.octets_are) ∙ b.octets_are ∙ sym (append-nil (tlv b.tag b.contents)) in
    (tlv-unique a.tag b.tag a.contents b.contents more [] e).2

-- the order of octets that begin with two encodings is that of the encodings, and if they are equal, that of what follows
pub lex-tlv_front : (t u : Tag) (c d x y : List ℕ) → lex (tlv t c ++ x) (tlv u d ++ y) ≡ ordering_then (lex (tlv t c) (tlv u d)) (lex x y)
lex-tlv_front t u c d x y = lex-append (tlv t c) (tlv u d) x y (tlv-beginning t u c d)

pub lex-none-some : (s x : List ℕ) → 0 < length s → lex [] (s ++ x) ≡ Less
lex-none-some [] x h = absurd (omega arith)
lex-none-some (z ∷ s) x h = refl

pub lex-some-none : (s x : List ℕ) → 0 < length s → lex (s ++ x) [] ≡ Greater
lex-some-none [] x h = absurd (omega arith)
lex-some-none (z ∷ s) x h = refl

module _ {T : Type 0} (tag_of : T → Tag) (contents encoding : T → List ℕ) (encoding_is : (v : T) → encoding v ≡ tlv (tag_of v) (contents v)) where
  pub encoding-some : (v : T) → 0 < length (encoding v)
  encoding-some v = let h = length-tlv-positive (tag_of v) (contents v) in subst (λ s. 0 < length s) (sym (encoding_is v)) h

  pub encoding-beginning : (v w : T) → SameBeginning (encoding v) (encoding w)
  encoding-beginning v w =
      subst (λ s. SameBeginning s (encoding w)) (sym (encoding_is v)) (subst (λ s. SameBeginning (tlv (tag_of v) (contents v)) s) (sym (encoding_is w)) (tlv-beginning (tag_of v) (tag_of w) (contents v) (contents w)))

  -- the empty list of octets is less than an encoding
  pub lex-absent-present : (w : T) → lex [] (encoding w) ≡ Less
  lex-absent-present w = ap (lex []) (sym (append-nil (encoding w))) ∙ lex-none-some (encoding w) [] (encoding-some w)

  pub lex-present-absent : (v : T) → lex (encoding v) [] ≡ Greater
  lex-present-absent v = ap (λ s. lex s []) (sym (append-nil (encoding v))) ∙ lex-some-none (encoding v) [] (encoding-some v)

  -- joined encodings: the first pair that differs decides, else the number of items
  pub lex-items : (vs ws : List T) → lex (flat_map encoding vs) (flat_map encoding ws) ≡ slice_cmp (on encoding lex) vs ws
  lex-items [] [] = refl
  lex-items [] (w ∷ ws) = lex-none-some (encoding w) (flat_map encoding ws) (encoding-some w)
  lex-items (v ∷ vs) [] = lex-some-none (encoding v) (flat_map encoding vs) (encoding-some v)
  lex-items (v ∷ vs) (w ∷ ws) =
      lex-append (encoding v) (encoding w) (flat_map encoding vs) (flat_map encoding ws) (encoding-beginning v w) ∙ ap (ordering_then (lex (encoding v) (encoding w))) (lex-items vs ws)

  -- octets that such a value is read from are not empty
  pub accepted-some : (F : form.Ghosts T) → ((v : T) → F.encoding v ≡ encoding v) → (rules : EncodingRules) (v : T) (b : List ℕ) → F.accepts rules v b → 0 < length b
  accepted-some F same rules v b a = let e = F.same_length rules v b a in let h = encoding-some v in omega (arith, ap length (same v))

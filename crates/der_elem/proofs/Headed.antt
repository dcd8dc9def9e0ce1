-- The order of values with tags, from their tags, their lengths and their contents octets.
use Rattle.std.proofs.Common.{◌≡◌, ◌≢◌, ◌≤◌, ◌^◌, length, true, Result, Ok, Err, inl, inr, sym, ap, ◌∙◌, arith, subst, Ordering}
use Rattle.std.proofs.lemmas.List.{length-append}
use Rattle.std.specs.declared.cmp.Ordering.TheVariants.{Equal}
use Rattle.std.specs.Ordering.{nat_cmp}
use Rattle.der_tlv.specs.declared.error.ErrorKind.{ErrorKind}
use Rattle.der_tlv.specs.declared.error.ErrorKind.TheVariants.{Overflow, Memory, Value}
use Rattle.der_tlv.specs.declared.error.Error.{Error}
use Rattle.der_tlv.specs.declared.tag.Tag.{Tag}
use Rattle.der_tlv.specs.Octets.{lex}
use Rattle.der_tlv.specs.Identifier.{identifier}
use Rattle.der_tlv.specs.HeaderOctets.{header_octets, tlv}
use Rattle.der_elem.specs.ContentsFormat.{ContentsFormat}
use Rattle.der_elem.specs.declared.form.Form as form
use Rattle.der_elem.specs.Comparing.{IncomparableValues, Incomparable, ComparesValues, Compares, SameHeader}
use Rattle.der_tlv.specs.IdentifierLaws.{lex-identifier-equal}
use Rattle.der_tlv.specs.OctetLaws.{lex-equal, lex-same}
use Rattle.der_elem.proofs.HeadersDecide as headers

-- two values with tags
pub record Headed {T : Type 0} (V : ContentsFormat T) (F : form.Ghosts T) (tag_of : T → Tag) : Type 0 where
  pub encoding_is : (v : T) → F.encoding v ≡ tlv (tag_of v) (V.contents v)
  pub re_reads_alike : (v : T) → V.re_reads v ≡ true → F.re_reads v ≡ true
  pub comparable_alike : (v w : T) → F.comparable v w → V.comparable v w

module _ {T : Type 0} {V : ContentsFormat T} {F : form.Ghosts T} {tag_of : T → Tag} (h : Headed V F tag_of) (x y : T) where
  pub tags_decide : (o : Ordering) → o ≡ lex (identifier (tag_of x)) (identifier (tag_of y)) → o ≢ Equal → o ≡ lex (F.encoding x) (F.encoding y)
  tags_decide = headers.tags_decide (F.encoding x) (F.encoding y) (tag_of x) (tag_of y) (V.contents x) (V.contents y) (h.encoding_is x) (h.encoding_is y)

  module _ (same_tag : lex (identifier (tag_of x)) (identifier (tag_of y)) ≡ Equal) where
    same_encoding : V.contents x ≡ V.contents y → F.encoding x ≡ F.encoding y
    same_encoding e =
        h.encoding_is x ∙ ap (tlv (tag_of x)) e ∙ ap (λ t. tlv t (V.contents y)) (lex-identifier-equal (tag_of x) (tag_of y) same_tag) ∙ sym (h.encoding_is y)

    equal_contents : Equal ≡ lex (V.contents x) (V.contents y) → Equal ≡ lex (F.encoding x) (F.encoding y)
    equal_contents e =
        sym (ap (λ o. lex o (F.encoding y)) (same_encoding (lex-equal (V.contents x) (V.contents y) (sym e))) ∙ lex-same (F.encoding y))

    -- equal contents octets need no comparison of lengths
    pub equal_decides : (r : Result Ordering Error) → r ≡ Ok Equal → ComparesValues V x y r → Compares F x y r
    equal_decides r e told =
        subst (λ r. Compares F x y r) (sym e) (equal_contents (subst (λ r. ComparesValues V x y r) e told))

    pub lengths_decide : (o : Ordering) → o ≡ nat_cmp (length (V.contents x)) (length (V.contents y)) → o ≢ Equal → o ≡ lex (F.encoding x) (F.encoding y)
    lengths_decide = headers.lengths_decide (F.encoding x) (F.encoding y) (tag_of x) (tag_of y) (V.contents x) (V.contents y) (h.encoding_is x) (h.encoding_is y) same_tag

    module _ (same_length : nat_cmp (length (V.contents x)) (length (V.contents y)) ≡ Equal) where
      after_headers : lex (F.encoding x) (F.encoding y) ≡ lex (V.contents x) (V.contents y)
      after_headers = headers.after_headers (F.encoding x) (F.encoding y) (tag_of x) (tag_of y) (V.contents x) (V.contents y) (h.encoding_is x) (h.encoding_is y) same_tag same_length

      same_header : SameHeader (F.encoding x) (F.encoding y)
      same_header = (headers.headers_equal (F.encoding x) (F.encoding y) (tag_of x) (tag_of y) (V.contents x) (V.contents y) (h.encoding_is x) (h.encoding_is y) same_tag same_length).1

      longer : (v : T) → 2 ^ 32 ≤ length (V.contents v) → 2 ^ 32 ≤ length (F.encoding v)
      longer v l = omega (arith, ap length (h.encoding_is v), length-append (header_octets (tag_of v) (length (V.contents v))) (V.contents v))

      incomparable : (kind : ErrorKind) → IncomparableValues V x y kind → Incomparable F x y kind
      incomparable Overflow r = elim r [ inl l ↦ inl (longer x l) | inr l ↦ inr (longer y l) ]
      incomparable (Value tag) r = (λ one. r (h.comparable_alike x y one), same_header)
      incomparable Memory r = elim r [ inl m ↦ inl (h.re_reads_alike x m) | inr m ↦ inr (h.re_reads_alike y m) ]
      incomparable _ r = absurd r

      pub contents_decide : (r : Result Ordering Error) → ComparesValues V x y r → Compares F x y r
      contents_decide (Ok o) e = e ∙ sym after_headers
      contents_decide (Err e) r = incomparable e.kind r

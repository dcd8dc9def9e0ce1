-- The order of two encodings, from their tags, their lengths and their contents octets.
use Rattle.std.proofs.Common.{◌≡◌, ◌≢◌, ℕ, List, length, sym, ap, ◌∙◌, Ordering}
use Rattle.std.specs.declared.cmp.Ordering.TheVariants.{Equal}
use Rattle.std.specs.Ordering.{nat_cmp, ordering_then}
use Rattle.der_tlv.specs.declared.tag.Tag.{Tag}
use Rattle.der_tlv.specs.Octets.{lex}
use Rattle.der_tlv.specs.OrderingLaws.{nat_cmp-equal, then_decided}
use Rattle.der_tlv.specs.Identifier.{identifier}
use Rattle.der_tlv.specs.IdentifierLaws.{lex-identifier-equal}
use Rattle.der_tlv.specs.HeaderOctets.{tlv}
use Rattle.der_tlv.specs.HeaderOrder.{lex-tlv}
use Rattle.der_elem.specs.Comparing.{SameHeader}

module _ (a b : List ℕ) (t u : Tag) (c d : List ℕ) (e : a ≡ tlv t c) (f : b ≡ tlv u d) where
  order_is : lex a b ≡ ordering_then (lex (identifier t) (identifier u)) (ordering_then (nat_cmp (length c) (length d)) (lex c d))
  order_is = ap (λ o. lex o b) e ∙ ap (lex (tlv t c)) f ∙ lex-tlv t u c d

  pub tags_decide : (o : Ordering) → o ≡ lex (identifier t) (identifier u) → o ≢ Equal → o ≡ lex a b
  tags_decide o is unequal =
      sym (order_is ∙ ap (λ p. ordering_then p (ordering_then (nat_cmp (length c) (length d)) (lex c d))) (sym is) ∙ then_decided o _ unequal)

  pub lengths_decide : lex (identifier t) (identifier u) ≡ Equal → (o : Ordering) → o ≡ nat_cmp (length c) (length d) → o ≢ Equal → o ≡ lex a b
  lengths_decide same o is unequal =
      sym (order_is ∙ ap (λ p. ordering_then p (ordering_then (nat_cmp (length c) (length d)) (lex c d))) same ∙ ap (λ p. ordering_then p (lex c d)) (sym is) ∙ then_decided o _ unequal)

  module _ (same_tag : lex (identifier t) (identifier u) ≡ Equal) (same_length : nat_cmp (length c) (length d) ≡ Equal) where
    -- the contents octets decide
    pub after_headers : lex a b ≡ lex c d
    after_headers =
        order_is ∙ ap (λ p. ordering_then p (ordering_then (nat_cmp (length c) (length d)) (lex c d))) same_tag ∙ ap (λ p. ordering_then p (lex c d)) same_length

  pub headers_equal : lex (identifier t) (identifier u) ≡ Equal → nat_cmp (length c) (length d) ≡ Equal → (t ≡ u) × SameHeader a b
  headers_equal same same_length =
      let one = lex-identifier-equal t u same in
      (one, record { tag = t; first = c; second = d; first_is = e; second_is = f ∙ ap (λ t. tlv t d) (sym one); same_length = nat_cmp-equal _ _ same_length })

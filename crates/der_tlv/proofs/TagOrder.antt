-- The order of tags whose first identifier octets differ.
use Rattle.std.proofs.Common.{◌≡◌, ℕ, ◌∷◌, refl, sym, ap, ◌∙◌, Less, Equal, Greater, Ordering, nat_cmp}
use Rattle.std.specs.Ordering.{ordering_then}
use Rattle.der_tlv.specs.declared.tag.Tag.{Tag}
use Rattle.der_tlv.specs.TagParts.{class_of, is_constructed, number_of}
use Rattle.der_tlv.specs.Identifier.{first_octet, identifier}
use Rattle.der_tlv.specs.IdentifierLaws.{identifier-is, low_bits, later_octets}
use Rattle.der_tlv.specs.Octets.{lex}

-- an order that is not equal decides
then_first : (o p : Ordering) → (o ≡ Equal → ⊥) → o ≡ ordering_then o p
then_first Less p h = refl
then_first Equal p h = absurd (h refl)
then_first Greater p h = refl

-- first octets that differ decide the order
pub first_decides : (t u : Tag) (r s : ℕ) (o : Ordering) → r ≡ first_octet (class_of t) (is_constructed t) (low_bits (number_of t)) → s ≡ first_octet (class_of u) (is_constructed u) (low_bits (number_of u)) → o ≡ nat_cmp r s → (o ≡ Equal → ⊥) → o ≡ lex (identifier t) (identifier u)
first_decides t u r s o e f is apart =
    let first : o ≡ nat_cmp (first_octet (class_of t) (is_constructed t) (low_bits (number_of t))) (first_octet (class_of u) (is_constructed u) (low_bits (number_of u))) = is ∙ ap (λ k. nat_cmp k s) e ∙ ap (nat_cmp (first_octet (class_of t) (is_constructed t) (low_bits (number_of t)))) f in
    then_first o (lex (later_octets (number_of t)) (later_octets (number_of u))) apart
    ∙ ap (λ k. ordering_then k (lex (later_octets (number_of t)) (later_octets (number_of u)))) first
    ∙ ap (λ z. lex (first_octet (class_of t) (is_constructed t) (low_bits (number_of t)) ∷ later_octets (number_of t)) z) (sym (identifier-is u))
    ∙ ap (λ z. lex z (identifier u)) (sym (identifier-is t))

-- Padding with zeros does not change the order of encodings, since none is a prefix of another.
use Rattle.std.proofs.Common.{◌≡◌, ℕ, ◌-◌, List, length, refl, ap, ◌∙◌, Ordering}
use Rattle.std.proofs.Math.ListN.{replicate}
use Rattle.std.specs.declared.cmp.Ordering.TheVariants.{Less, Equal, Greater}
use Rattle.std.specs.Ordering.{ordering_then}
use Rattle.der_tlv.specs.declared.tag.Tag.{Tag}
use Rattle.der_tlv.specs.Octets.{lex}
use Rattle.der_tlv.specs.OctetLaws.{lex-equal, lex-same}
use Rattle.der_tlv.specs.HeaderOctets.{tlv}
use Rattle.der_elem.specs.OrderLaws.{lex-tlv_front}
use Rattle.der_elem.specs.PaddedOrder.{padded_cmp}

then_settled : (o p : Ordering) → (o ≡ Equal → p ≡ Equal) → ordering_then o p ≡ o
then_settled Less p h = refl
then_settled Equal p h = h refl
then_settled Greater p h = refl

pub padded-tlv : (t u : Tag) (c d : List ℕ) → padded_cmp (tlv t c) (tlv u d) ≡ lex (tlv t c) (tlv u d)
padded-tlv t u c d =
    let a : List ℕ = tlv t c in
    let b : List ℕ = tlv u d in
    let x : List ℕ = replicate (length b - length a) 0 in
    let y : List ℕ = replicate (length a - length b) 0 in
    let same_padding : a ≡ b → lex x y ≡ Equal = λ e. ap (λ s. lex (replicate (length b - length s) 0) (replicate (length s - length b) 0)) e ∙ lex-same (replicate (length b - length b) 0) in
    lex-tlv_front t u c d x y ∙ then_settled (lex a b) (lex x y) (λ e. same_padding (lex-equal a b e))

-- Values with one encoding hold the same octets.
use Rattle.std.specs.Prelude.{◌≡◌, ℕ, List, [], ◌∷◌, ◌++◌, nat_eq, false}
use Rattle.std.proofs.Common.{ap, ◌∙◌, eq-eqb}
use Rattle.der_tlv.specs.declared.tag.Tag.{Tag}
use Rattle.der_tlv.specs.TagParts.{number_of}
use Rattle.der_tlv.specs.HeaderOctets.{tlv}
use Rattle.der_tlv.specs.HeaderLaws.{tlv-injective, tlv-unique}

pub same_one : (t : Tag) (c d : List ℕ) → tlv t c ≡ tlv t d → c ∷ [] ≡ d ∷ []
same_one t c d e = ap (λ o. o ∷ []) (tlv-injective t t c d e).1

-- encodings whose tags have two numbers are two
pub other_tag : (t u : Tag) (c d : List ℕ) (held others : List (List ℕ)) → tlv t c ≡ tlv u d → nat_eq (number_of t) (number_of u) ≡ false → held ≡ others
other_tag t u c d held others e apart =
    let same = eq-eqb (number_of t) (number_of u) (ap number_of (tlv-injective t u c d e).0) in
    absurd (cc)

pub same_two : (s t u : Tag) (a b c d : List ℕ) → tlv s (tlv t a ++ (tlv u b ++ [])) ≡ tlv s (tlv t c ++ (tlv u d ++ [])) → a ∷ b ∷ [] ≡ c ∷ d ∷ []
same_two s t u a b c d e =
    let first = tlv-unique t t a c (tlv u b ++ []) (tlv u d ++ []) (tlv-injective s s (tlv t a ++ (tlv u b ++ [])) (tlv t c ++ (tlv u d ++ [])) e).1 in
    let other = tlv-unique u u b d [] [] first.2 in
    ap (λ o. o ∷ b ∷ []) first.1 ∙ ap (λ o. c ∷ o ∷ []) other.1

-- The order of octets.
use Rattle.std.proofs.Common.{◌≡◌, ℕ, List, true, false, sym, ap, refl, ◌∙◌}
use Rattle.std.specs.Cmp.{IsStrictWeakOrder}
use Rattle.std.specs.Ordering.{is_lt, is_le, is_gt, ordering_reverse}
use Rattle.std.specs.declared.cmp.Ordering.{Ordering}
use Rattle.std.specs.declared.cmp.Ordering.TheVariants.{Less, Equal, Greater}
use Rattle.std.proofs.lemmas.Cmp.{nat_list_cmp_total, upto}
use Rattle.std.proofs.lemmas.List.Sorted.{ranks_by}
use Rattle.der_tlv.specs.Octets.{lex}
use Rattle.der_tlv.specs.OctetLaws.{lex-equal}

pub lex_weak : IsStrictWeakOrder (λ x y. is_lt (lex x y))
lex_weak = ranks_by nat_list_cmp_total (λ x. x)

pub not_gt : (o : Ordering) → is_le o ≡ true → is_gt o ≡ false
not_gt Less e = refl
not_gt Equal e = refl
not_gt Greater e = cc

pub le_of : (o : Ordering) → is_gt o ≡ false → is_le o ≡ true
le_of Less e = refl
le_of Equal e = refl
le_of Greater e = cc

back_le : (o : Ordering) → is_lt (ordering_reverse o) ≡ false → is_le o ≡ true
back_le Less e = cc
back_le Equal e = refl
back_le Greater e = cc

-- `not y < x` is `x <= y`
pub le_from_not_lt : (x y : List ℕ) → is_lt (lex y x) ≡ false → is_le (lex x y) ≡ true
le_from_not_lt x y h = back_le (lex x y) (sym (ap is_lt (nat_list_cmp_total.antisymm y x)) ∙ h)

not_lt_of_le : (o : Ordering) → is_le o ≡ true → is_lt (ordering_reverse o) ≡ false
not_lt_of_le Less e = refl
not_lt_of_le Equal e = refl
not_lt_of_le Greater e = cc

pub not_lt_from_le : (x y : List ℕ) → is_le (lex x y) ≡ true → is_lt (lex y x) ≡ false
not_lt_from_le x y h = ap is_lt (nat_list_cmp_total.antisymm y x) ∙ not_lt_of_le (lex x y) h

above_not_lt : (o : Ordering) → is_le o ≡ false → is_lt o ≡ false
above_not_lt Less e = cc
above_not_lt Equal e = refl
above_not_lt Greater e = refl

pub not_lt_from_above : (x y : List ℕ) → is_le (lex x y) ≡ false → is_lt (lex x y) ≡ false
not_lt_from_above x y h = above_not_lt (lex x y) h

pub lex_le_trans : (x y z : List ℕ) → is_le (lex x y) ≡ true → is_le (lex y z) ≡ true → is_le (lex x z) ≡ true
lex_le_trans x y z h k =
    le_of (lex x z) (upto nat_list_cmp_total x y z (not_gt (lex x y) h) (not_gt (lex y z) k))

-- if each is not greater than the other, they are equal
pub lex_le_same : (x y : List ℕ) → is_le (lex x y) ≡ true → is_le (lex y x) ≡ true → x ≡ y
lex_le_same x y h k = go (lex x y) refl h
  where
    go : (o : Ordering) → lex x y ≡ o → is_le o ≡ true → x ≡ y
    go Less e h = let f : is_lt (lex x y) ≡ true = ap is_lt e in let n = not_lt_from_le y x k in cc
    go Equal e h = lex-equal x y e
    go Greater e h = cc

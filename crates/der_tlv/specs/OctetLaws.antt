-- Laws of lists of octets and their order.
use Rattle.std.specs.Prelude.{◌≡◌, ℕ, List, [], ◌∷◌, ◌++◌}
use Rattle.std.specs.Ordering.{nat_cmp, ordering_then}
use Rattle.std.specs.declared.cmp.Ordering.TheVariants.{Equal}
use Rattle.std.proofs.Common.{refl, ◌∙◌}
use Rattle.std.proofs.lemmas.Cmp.{tied_itself, nat_list_cmp_total}
use Rattle.der_tlv.specs.Octets.{lex}
use Rattle.der_tlv.specs.OrderingLaws.{then_within, then_assoc, both_equal, nat_cmp-equal}

-- octets that begin the same list only if they are equal, so that neither is a proper prefix of the other
pub record SameBeginning (a b : List ℕ) : Type 0 where
  pub same : (x y : List ℕ) → a ++ x ≡ b ++ y → a ≡ b

-- this also holds after an equal first octet
rest_beginning : (r s : ℕ) (a b : List ℕ) → SameBeginning (r ∷ a) (s ∷ b) → r ≡ s → SameBeginning a b
rest_beginning r s a b h e = record {
  same = λ x y k. let whole : (r ∷ a) ++ x ≡ (s ∷ b) ++ y = cc in let all : r ∷ a ≡ s ∷ b = h.same x y whole in cc;
}

-- the order of two lists that begin with such octets is that of these octets, and if they are equal, that of the tails
pub lex-append : (a b x y : List ℕ) → SameBeginning a b → lex (a ++ x) (b ++ y) ≡ ordering_then (lex a b) (lex x y)
lex-append [] [] x y h = refl
lex-append [] (s ∷ b) x y h = let k : [] ≡ s ∷ b = h.same ((s ∷ b) ++ y) y refl in absurd (cc)
lex-append (r ∷ a) [] x y h = let k : r ∷ a ≡ [] = h.same x ((r ∷ a) ++ x) refl in absurd (cc)
lex-append (r ∷ a) (s ∷ b) x y h =
    then_within (nat_cmp r s) (lex (a ++ x) (b ++ y)) (ordering_then (lex a b) (lex x y)) (λ e. lex-append a b x y (rest_beginning r s a b h (nat_cmp-equal r s e)))
    ∙ then_assoc (nat_cmp r s) (lex a b) (lex x y)

-- octets that compare as equal are equal
pub lex-equal : (a b : List ℕ) → lex a b ≡ Equal → a ≡ b
lex-equal [] [] e = refl
lex-equal [] (s ∷ b) e = absurd (cc)
lex-equal (r ∷ a) [] e = absurd (cc)
lex-equal (r ∷ a) (s ∷ b) e =
    let both = both_equal (nat_cmp r s) (lex a b) e in
    let first : r ≡ s = nat_cmp-equal r s both.0 in
    let rest : a ≡ b = lex-equal a b both.1 in cc

-- octets compare as equal to themselves
pub lex-same : (a : List ℕ) → lex a a ≡ Equal
lex-same a = tied_itself nat_list_cmp_total a

-- The order of lists of items, pair by pair.
use Rattle.std.proofs.Common.{◌≡◌, ◌≢◌, ℕ, zero, suc, ◌+◌, ◌<◌, List, [], ◌∷◌, length, drop, get_or, min, inl, inr, refl, sym, ap, ◌∙◌, arith, subst, Ordering, add-one}
use Rattle.std.specs.declared.cmp.Ordering.TheVariants.{Equal}
use Rattle.std.specs.Ordering.{nat_cmp, ordering_then}
use Rattle.std.specs.Cmp.Lexicographic.{slice_cmp}
use Rattle.std.proofs.Math.Seq.{drop-cons}
use Rattle.std.proofs.lemmas.Bool.Decides.{nat_tests}
use Rattle.der_tlv.specs.OrderingLaws.{then_decided, nat_cmp-less, nat_cmp-greater}
use Rattle.der_tlv.specs.declared.error.ErrorKind.{ErrorKind}
use Rattle.der_tlv.specs.declared.error.ErrorKind.TheVariants.{Overflow, Memory, Value}
use Rattle.der_elem.specs.declared.form.Form as form
use Rattle.der_elem.specs.Comparing.{Incomparable}
use Rattle.der_elem.specs.ComparingItems.{IncomparableItems}
use Rattle.der_elem.specs.Items.{AllComparable}
use Rattle.der_elem.proofs.ItemWriting.{length_at, re_reads_at}

pub item_first : {T : Type 0} (xs : List T) (i : ℕ) (x : T) → i < length xs → get_or xs i x ≡ x → drop i xs ≡ x ∷ drop (i + 1) xs
item_first xs i x h e = rw (add-one) (drop-cons xs i x h ∙ ap (λ y. y ∷ drop (suc i) xs) e)

-- the pair at an index, and then the pairs after it
pub cmp_at : {T : Type 0} (R : T → T → Ordering) (vs ws : List T) (i : ℕ) (v w : T) → i < length vs → i < length ws → get_or vs i v ≡ v → get_or ws i w ≡ w → slice_cmp R (drop i vs) (drop i ws) ≡ ordering_then (R v w) (slice_cmp R (drop (i + 1) vs) (drop (i + 1) ws))
cmp_at R vs ws i v w h k e f = rw (item_first vs i v h e, item_first ws i w k f) refl

cmp-suc : (m n : ℕ) → nat_cmp (suc m) (suc n) ≡ nat_cmp m n
cmp-suc m n = grind (arith, nat_tests)

pub cmp_end : {T : Type 0} (R : T → T → Ordering) (vs ws : List T) (i : ℕ) → i ≡ min (length vs) (length ws) → slice_cmp R (drop i vs) (drop i ws) ≡ nat_cmp (length vs) (length ws)
cmp_end R [] [] zero e = refl
cmp_end R [] (w ∷ ws) zero e = let h : 0 < suc (length ws) = omega arith in sym (nat_cmp-less _ _ h)
cmp_end R (v ∷ vs) [] zero e = let h : 0 < suc (length vs) = omega arith in sym (nat_cmp-greater _ _ h)
cmp_end R (v ∷ vs) (w ∷ ws) zero e = absurd (omega arith)
cmp_end R [] ws (suc i) e = absurd (omega arith)
cmp_end R (v ∷ vs) [] (suc i) e = absurd (omega arith)
cmp_end R (v ∷ vs) (w ∷ ws) (suc i) e = cmp_end R vs ws i (omega arith) ∙ sym (cmp-suc (length vs) (length ws))

-- a pair that differs decides, if the pairs before it do not
pub decided_at : {T : Type 0} (R : T → T → Ordering) (vs ws : List T) (i : ℕ) (v w : T) (o : Ordering) → i < length vs → i < length ws → get_or vs i v ≡ v → get_or ws i w ≡ w → slice_cmp R vs ws ≡ slice_cmp R (drop i vs) (drop i ws) → o ≡ R v w → o ≢ Equal → o ≡ slice_cmp R vs ws
decided_at R vs ws i v w o h k e f before is ne =
    is ∙ sym (before ∙ cmp_at R vs ws i v w h k e f ∙ then_decided (R v w) (slice_cmp R (drop (i + 1) vs) (drop (i + 1) ws)) (λ e. ne (is ∙ e)))

comparable_at : {T : Type 0} (comparable : T → T → Type 0) (vs ws : List T) (i : ℕ) (v w : T) → i < length vs → i < length ws → get_or vs i v ≡ v → get_or ws i w ≡ w → AllComparable comparable vs ws → comparable v w
comparable_at comparable [] ws i v w h k e f o = absurd (omega arith)
comparable_at comparable (x ∷ vs) [] i v w h k e f o = absurd (omega arith)
comparable_at comparable (x ∷ vs) (y ∷ ws) zero v w h k e f (o, os) = subst (λ x. comparable x w) e (subst (λ y. comparable x y) f o)
comparable_at comparable (x ∷ vs) (y ∷ ws) (suc i) v w h k e f (o, os) = comparable_at comparable vs ws i v w (omega arith) (omega arith) e f os

-- if two items have no comparison, their lists have none
module _ {T : Type 0} (F : form.Ghosts T) (vs ws : List T) (i : ℕ) (v w : T) (h : i < length vs) (k : i < length ws) (e : get_or vs i v ≡ v) (f : get_or ws i w ≡ w) where
  pub incomparable_item : (kind : ErrorKind) → Incomparable F v w kind → IncomparableItems F vs ws kind
  incomparable_item Overflow why = elim why [
    | inl a ↦ inl (omega (arith, length_at F.encoding vs i v h e))
    | inr b ↦ inr (omega (arith, length_at F.encoding ws i w k f))
  ]
  incomparable_item (Value tag) why = λ o. why.0 (comparable_at F.comparable vs ws i v w h k e f o)
  incomparable_item Memory why = elim why [
    | inl a ↦ inl (re_reads_at F.re_reads vs i v h e a)
    | inr b ↦ inr (re_reads_at F.re_reads ws i w k f b)
  ]
  incomparable_item _ why = absurd why

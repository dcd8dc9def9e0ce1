-- Laws of orderings: in sequence, and of numbers.
use Rattle.std.specs.Ordering.{nat_cmp, ordering_then, is_eq}
use Rattle.std.specs.declared.cmp.Ordering.{Ordering}
use Rattle.std.specs.declared.cmp.Ordering.TheVariants.{Less, Equal, Greater}
use Rattle.std.proofs.Common.{◌≡◌, ◌≢◌, ℕ, ◌<◌, true, refl, sym, arith}
use Rattle.std.proofs.lemmas.Bool.Decides.{nat_tests}
use Rattle.std.proofs.lemmas.Cmp.{ranked}

-- ---- in sequence

-- the grouping does not matter
pub then_assoc : (o p q : Ordering) → ordering_then o (ordering_then p q) ≡ ordering_then (ordering_then o p) q
then_assoc Less p q = refl
then_assoc Equal p q = refl
then_assoc Greater p q = refl

pub then_equal : (o : Ordering) → ordering_then o Equal ≡ o
then_equal Less = refl
then_equal Equal = refl
then_equal Greater = refl

-- an ordering that is not equal decides
pub then_decided : (o p : Ordering) → o ≢ Equal → ordering_then o p ≡ o
then_decided Less p h = refl
then_decided Equal p h = absurd (h refl)
then_decided Greater p h = refl

-- the second ordering matters only if the first is equal
pub then_within : (o p q : Ordering) → (o ≡ Equal → p ≡ q) → ordering_then o p ≡ ordering_then o q
then_within Less p q h = refl
then_within Equal p q h = h refl
then_within Greater p q h = refl

pub both_equal : (o p : Ordering) → ordering_then o p ≡ Equal → (o ≡ Equal) × (p ≡ Equal)
both_equal Less p h = absurd (cc)
both_equal Equal p h = (refl, h)
both_equal Greater p h = absurd (cc)

pub equal_tested : (o : Ordering) → is_eq o ≡ true → o ≡ Equal
equal_tested Less h = absurd (cc)
equal_tested Equal h = refl
equal_tested Greater h = absurd (cc)

-- ---- of numbers

pub nat_cmp-equal : (m n : ℕ) → nat_cmp m n ≡ Equal → m ≡ n
nat_cmp-equal m n e = ranked m n Equal (sym e)

pub nat_cmp-same : (m n : ℕ) → m ≡ n → nat_cmp m n ≡ Equal
nat_cmp-same m n h = grind (arith, nat_tests)

pub nat_cmp-less : (m n : ℕ) → m < n → nat_cmp m n ≡ Less
nat_cmp-less m n h = grind (arith, nat_tests)

pub nat_cmp-greater : (m n : ℕ) → n < m → nat_cmp m n ≡ Greater
nat_cmp-greater m n h = grind (arith, nat_tests)

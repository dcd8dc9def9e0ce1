-- Encodings that are looked at one after another.
use Rattle.std.proofs.Common.{◌≡◌, ℕ, zero, suc, ◌<◌, ◌≤◌, List, length, Bool, false, ◌||◌, Some, None, refl, sym, ap, ◌∙◌, arith}
use Rattle.std.specs.List.{list_any}
use Rattle.der_verify.specs.Elements.{front_of, fronts_within, one_is, passes, with_front, Test}

module _ (test : Test) (octets : List ℕ) where
  -- one of all encodings passes if and only if one of those that are left does
  abbrev pub StillOne : List ℕ → Type 0
  StillOne left = (most : ℕ) × (length left ≤ most) × (list_any (passes test) (fronts_within most left) ≡ one_is test octets)

  pub still_begin : StillOne octets
  still_begin = (length octets, omega arith, refl)

  -- the first of the encodings that are left, and the others
  step : (left : List ℕ) (identifier : ℕ) (contents others : List ℕ) → front_of left ≡ Some (identifier, contents, others) → length others < length left → StillOne left → (most : ℕ) × (length others ≤ most) × (test identifier contents others || list_any (passes test) (fronts_within most others) ≡ one_is test octets)
  unfolding fronts_within
  step left identifier contents others front fewer (zero, few, same) = absurd (omega arith)
  step left identifier contents others front fewer (suc most, few, same) =
      (most, omega arith, sym (ap (λ f. list_any (passes test) (with_front f (fronts_within most))) front) ∙ same)

  pub still_go : (left : List ℕ) (identifier : ℕ) (contents others : List ℕ) (b : Bool) → front_of left ≡ Some (identifier, contents, others) → length others < length left → b ≡ test identifier contents others → StillOne left → (most : ℕ) × (length others ≤ most) × (b || list_any (passes test) (fronts_within most others) ≡ one_is test octets)
  still_go left identifier contents others b front fewer tells still =
      let next = step left identifier contents others front fewer still in
      (next.0, next.1, ap (λ c. c || list_any (passes test) (fronts_within next.0 others)) tells ∙ next.2)

  pub still_end : (left : List ℕ) → front_of left ≡ None → StillOne left → false ≡ one_is test octets
  unfolding fronts_within
  still_end left none (zero, few, same) = same
  still_end left none (suc most, few, same) = sym (ap (λ f. list_any (passes test) (with_front f (fronts_within most))) none) ∙ same

-- Names to which a part is added.
use Rattle.std.proofs.Common.{◌≡◌, ◌+◌, ◌==◌, ◌&&◌, Bool, true, false, List, [], ◌∷◌, ◌++◌, length, length-append, refl, sym, ap, ◌∙◌, arith}
use Rattle.std.proofs.lemmas.Bool.Decides.{nat_tests}
use Rattle.der_path.specs.declared.names.Part.{Part}
use Rattle.der_path.specs.Subtrees.{is_within_name, same_names, same_parts}

and_true : (a : Bool) → (a && true) ≡ a
and_true true = refl
and_true false = refl

and_assoc : (a b c : Bool) → (a && (b && c)) ≡ ((a && b) && c)
and_assoc true b c = refl
and_assoc false b c = refl

within_added : (xs ys : List Part) (a b : Part) → length xs ≡ length ys → is_within_name (xs ++ a ∷ []) (ys ++ b ∷ []) ≡ (is_within_name xs ys && same_parts a b)
within_added [] [] a b l = and_true (same_parts a b)
within_added [] (y ∷ ys) a b l = absurd (omega (arith, l))
within_added (x ∷ xs) [] a b l = absurd (omega (arith, l))
within_added (x ∷ xs) (y ∷ ys) a b l = ap (λ r. same_parts x y && r) (within_added xs ys a b (omega (arith, l))) ∙ and_assoc (same_parts x y) (is_within_name xs ys) (same_parts a b)

one_more : (xs : List Part) (a : Part) → length (xs ++ a ∷ []) ≡ length xs + 1
one_more xs a = length-append xs (a ∷ [])

-- two names with a part added to each match if the names match and the parts
pub same_added : (xs ys : List Part) (a b : Part) → same_names (xs ++ a ∷ []) (ys ++ b ∷ []) ≡ (same_names xs ys && same_parts a b)
same_added xs ys a b = at (length xs == length ys) refl
  where
    at : (t : Bool) → (length xs == length ys) ≡ t → same_names (xs ++ a ∷ []) (ys ++ b ∷ []) ≡ (same_names xs ys && same_parts a b)
    at true e =
        let l : length xs ≡ length ys = grind (arith, nat_tests) in
        let more : (length (xs ++ a ∷ []) == length (ys ++ b ∷ [])) ≡ true = let m = one_more xs a in let n = one_more ys b in grind (arith, nat_tests) in
        ap (λ t. t && is_within_name (xs ++ a ∷ []) (ys ++ b ∷ [])) more ∙ within_added xs ys a b l ∙ sym (ap (λ t. (t && is_within_name xs ys) && same_parts a b) e)
    at false e =
        let more : (length (xs ++ a ∷ []) == length (ys ++ b ∷ [])) ≡ false = let m = one_more xs a in let n = one_more ys b in grind (arith, nat_tests) in
        ap (λ t. t && is_within_name (xs ++ a ∷ []) (ys ++ b ∷ [])) more ∙ sym (ap (λ t. (t && is_within_name xs ys) && same_parts a b) e)

module _ (xs ys : List Part) (a b : Part) (names : Bool) (names_are : names ≡ same_names xs ys) where
  pub names_match : (parts : Bool) → names ≡ true → parts ≡ same_parts a b → parts ≡ same_names (xs ++ a ∷ []) (ys ++ b ∷ [])
  names_match parts match are = are ∙ sym (ap (λ t. t && same_parts a b) (sym names_are ∙ match)) ∙ sym (same_added xs ys a b)

  pub names_differ : names ≡ false → names ≡ same_names (xs ++ a ∷ []) (ys ++ b ∷ [])
  names_differ differ = differ ∙ sym (ap (λ t. t && same_parts a b) (sym names_are ∙ differ)) ∙ sym (same_added xs ys a b)

-- Spaces before a string, and the characters after them.
use Rattle.std.proofs.Common.{◌≡◌, ◌==◌, ◌-◌, ◌<◌, ◌≤◌, ℕ, ◌≢◌, Bool, true, false, List, [], ◌∷◌, length, take, drop, get_or, refl, sym, ap, ◌∙◌, subst, arith}
use Rattle.std.specs.Prelude.{if◌then◌else◌}
use Rattle.std.proofs.Math.Seq.{take-length}
use Rattle.der_verify.specs.Text.{drop_spaces, settled, spaced}

-- a space before a string that begins with one changes nothing
spaced_twice : (ys : List ℕ) → spaced (spaced ys) ≡ spaced ys
spaced_twice [] = refl
spaced_twice (y ∷ ys) = at (y == 32) refl
  where
    at : (b : Bool) → (y == 32) ≡ b → spaced (spaced (y ∷ ys)) ≡ spaced (y ∷ ys)
    at true e = let s : spaced (y ∷ ys) ≡ y ∷ ys = ap (λ b. if b then y ∷ ys else 32 ∷ y ∷ ys) e in ap spaced s
    at false e = let s : spaced (y ∷ ys) ≡ 32 ∷ y ∷ ys = ap (λ b. if b then y ∷ ys else 32 ∷ y ∷ ys) e in ap spaced s ∙ sym s

-- spaces after a space change nothing
spaced_settled : (xs : List ℕ) → spaced (settled xs) ≡ spaced (settled (drop_spaces xs))
spaced_settled [] = refl
spaced_settled (x ∷ xs) = at (spaced_settled xs) (x == 32) refl
  where
    at : spaced (settled xs) ≡ spaced (settled (drop_spaces xs)) → (b : Bool) → (x == 32) ≡ b → spaced (settled (x ∷ xs)) ≡ spaced (settled (drop_spaces (x ∷ xs)))
    at others true e =
        ap (λ b. spaced (if b then spaced (settled xs) else x ∷ settled xs)) e
        ∙ spaced_twice (settled xs) ∙ others
        ∙ sym (ap (λ b. spaced (settled (if b then drop_spaces xs else x ∷ xs))) e)
    at others false e = sym (ap (λ b. spaced (settled (if b then drop_spaces xs else x ∷ xs))) e)

-- a space before a string that begins with another character
spaced_front : (xs : List ℕ) → 1 ≤ length (drop_spaces xs) → spaced (settled (drop_spaces xs)) ≡ 32 ∷ settled (drop_spaces xs)
spaced_front [] some = absurd (omega (arith, some))
spaced_front (x ∷ xs) some = at (λ h. spaced_front xs h) (x == 32) refl
  where
    at : (1 ≤ length (drop_spaces xs) → spaced (settled (drop_spaces xs)) ≡ 32 ∷ settled (drop_spaces xs)) → (b : Bool) → (x == 32) ≡ b → spaced (settled (drop_spaces (x ∷ xs))) ≡ 32 ∷ settled (drop_spaces (x ∷ xs))
    at others true e =
        let same : drop_spaces (x ∷ xs) ≡ drop_spaces xs = ap (λ b. if b then drop_spaces xs else x ∷ xs) e in
        ap (λ l. spaced (settled l)) same ∙ others (subst (λ l. 1 ≤ length l) same some) ∙ sym (ap (λ l. 32 ∷ settled l) same)
    at others false e =
        let same : drop_spaces (x ∷ xs) ≡ x ∷ xs = ap (λ b. if b then drop_spaces xs else x ∷ xs) e in
        let held : settled (x ∷ xs) ≡ x ∷ settled xs = ap (λ b. if b then spaced (settled xs) else x ∷ settled xs) e in
        let before : spaced (x ∷ settled xs) ≡ 32 ∷ x ∷ settled xs = ap (λ b. if b then x ∷ settled xs else 32 ∷ x ∷ settled xs) e in
        ap (λ l. spaced (settled l)) same ∙ ap spaced held ∙ before ∙ sym (ap (λ l. 32 ∷ l) held) ∙ sym (ap (λ l. 32 ∷ settled l) same)

-- a space, then spaces, then a string
pub front_space : (xs others : List ℕ) → others ≡ drop_spaces xs → 1 ≤ length others → settled (32 ∷ xs) ≡ 32 ∷ settled others
front_space xs others o some = spaced_settled xs ∙ spaced_front xs (subst (λ l. 1 ≤ length l) o some) ∙ sym (ap (λ l. 32 ∷ settled l) o)

-- a space with only spaces after it
pub front_end : (xs others : List ℕ) → others ≡ drop_spaces xs → length others ≡ 0 → settled (32 ∷ xs) ≡ []
front_end xs [] o none = spaced_settled xs ∙ ap (λ l. spaced (settled l)) (sym o)
front_end xs (x ∷ others) o none = absurd (omega (arith, none))

-- a character that is no space
pub front_other : (x : ℕ) (xs : List ℕ) → (x == 32) ≡ false → settled (x ∷ xs) ≡ x ∷ settled xs
front_other x xs e = ap (λ b. if b then spaced (settled xs) else x ∷ settled xs) e

pub dropped_space : (xs : List ℕ) → drop_spaces (32 ∷ xs) ≡ drop_spaces xs
dropped_space xs = refl

pub dropped_none : (x : ℕ) (xs : List ℕ) → (x == 32) ≡ false → drop_spaces (x ∷ xs) ≡ x ∷ xs
dropped_none x xs e = ap (λ b. if b then drop_spaces xs else x ∷ xs) e

pub shorter : (xs : List ℕ) → length (drop_spaces xs) ≤ length xs
shorter [] = omega arith
shorter (x ∷ xs) = at (shorter xs) (x == 32) refl
  where
    at : length (drop_spaces xs) ≤ length xs → (b : Bool) → (x == 32) ≡ b → length (drop_spaces (x ∷ xs)) ≤ length (x ∷ xs)
    at others true e = let same : length (drop_spaces (x ∷ xs)) ≡ length (drop_spaces xs) = ap (λ b. length (if b then drop_spaces xs else x ∷ xs)) e in omega (arith, same, others)
    at others false e = let same : length (drop_spaces (x ∷ xs)) ≡ length (x ∷ xs) = ap (λ b. length (if b then drop_spaces xs else x ∷ xs)) e in omega (arith, same)

-- what is left after the first
rest_is : (x : ℕ) (xs : List ℕ) → take (length (x ∷ xs) - 1) (drop 1 (x ∷ xs)) ≡ xs
rest_is x xs = let n : length (x ∷ xs) - 1 ≡ length xs = omega arith in ap (λ n. take n xs) n ∙ take-length xs

-- a string of a space and others, with nothing left after the spaces
pub end_after : (l others : List ℕ) (d : ℕ) → 1 ≤ length l → get_or l 0 d ≡ 32 → others ≡ drop_spaces (take (length l - 1) (drop 1 l)) → length others ≡ 0 → settled l ≡ []
end_after [] others d some at o none = absurd (omega (arith, some))
end_after (x ∷ xs) others d some at o none =
    ap (λ y. settled (y ∷ xs)) at ∙ front_end xs others (o ∙ ap drop_spaces (rest_is x xs)) none

-- a string of a space and others
pub space_before : (l others : List ℕ) (d : ℕ) → 1 ≤ length l → get_or l 0 d ≡ 32 → others ≡ drop_spaces (take (length l - 1) (drop 1 l)) → (length others ≢ 0) → settled l ≡ 32 ∷ settled others
space_before [] others d some at o more = absurd (omega (arith, some))
space_before (x ∷ xs) others d some at o more =
    ap (λ y. settled (y ∷ xs)) at ∙ front_space xs others (o ∙ ap drop_spaces (rest_is x xs)) (omega (arith, more))

pub fewer : (l others : List ℕ) → 1 ≤ length l → others ≡ drop_spaces (take (length l - 1) (drop 1 l)) → length others < length l
fewer [] others some o = absurd (omega (arith, some))
fewer (x ∷ xs) others some o =
    let same : length others ≡ length (drop_spaces xs) = ap length (o ∙ ap drop_spaces (rest_is x xs)) in
    let s = shorter xs in
    omega (arith, same, s)

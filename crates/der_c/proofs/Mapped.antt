-- Values that are made one after another from the items of a list.
use Rattle.std.proofs.Common.{◌≡◌, ℕ, List, [], ◌∷◌, ◌++◌, map, sym, ap, ◌∙◌, append_assoc}
use Rattle.std.proofs.lemmas.List.{append-nil}

-- what is written, and what is left
abbrev pub MappedSoFar : {A B : Type 0} → (A → B) → List A → List B → List A → Type 0
MappedSoFar f whole found left = map f whole ≡ found ++ map f left

pub one_mapped : {A B : Type 0} (f : A → B) (whole : List A) (found : List B) (left : List A) (item : A) (others : List A) (mapped : B) (more : List B) → left ≡ item ∷ others → mapped ≡ f item → more ≡ found ++ mapped ∷ [] → MappedSoFar f whole found left → MappedSoFar f whole more others
one_mapped f whole found left item others mapped more is m are so =
    so ∙ ap (λ l. found ++ map f l) is ∙ ap (λ x. found ++ x ∷ map f others) (sym m) ∙ sym (append_assoc found (mapped ∷ []) (map f others)) ∙ ap (λ l. l ++ map f others) (sym are)

pub all_mapped : {A B : Type 0} (f : A → B) (whole : List A) (found : List B) (left : List A) → left ≡ [] → MappedSoFar f whole found left → found ≡ map f whole
all_mapped f whole found left none so = sym (so ∙ ap (λ l. found ++ map f l) none ∙ append-nil found)

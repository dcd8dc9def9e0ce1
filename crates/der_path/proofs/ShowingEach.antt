-- Items that are kept one after another, each as it shows.
use Rattle.std.proofs.Common.{◌≡◌, List, [], ◌∷◌, ◌++◌, refl, sym, ap, ◌∙◌, subst, append_assoc}
use Rattle.std.proofs.lemmas.List.{append-nil}
use Rattle.der_verify.specs.Shown.{ShowEach}

pub show_more : {T X : Type 0} (shows : T → X → Type 0) (vs : List T) (xs : List X) (v : T) (x : X) → ShowEach shows vs xs → shows v x → ShowEach shows (vs ++ v ∷ []) (xs ++ x ∷ [])
show_more shows [] [] v x each one = (one, tt)
show_more shows [] (y ∷ ys) v x each one = absurd each
show_more shows (w ∷ ws) [] v x each one = absurd each
show_more shows (w ∷ ws) (y ∷ ys) v x each one = (each.0, show_more shows ws ys v x each.1 one)

-- the first items show what is kept, and the others are left
pub record ShownSoFar {T X : Type 0} (shows : T → X → Type 0) (all : List T) (found : List X) (left : List T) : Type 0 where
  pub done : List T
  pub all_is : all ≡ done ++ left
  pub show : ShowEach shows done found

module _ {T X : Type 0} (shows : T → X → Type 0) (all : List T) where
  pub none_shown : (found : List X) → found ≡ [] → ShownSoFar shows all found all
  none_shown found none = record { done = []; all_is = refl; show = subst (ShowEach shows []) (sym none) tt }

  pub one_shown : (found : List X) (left : List T) (v : T) (others : List T) (x : X) (more : List X) → left ≡ v ∷ others → ShownSoFar shows all found left → shows v x → more ≡ found ++ x ∷ [] → ShownSoFar shows all more others
  one_shown found left v others x more is so one are = record {
    done = so.done ++ v ∷ [];
    all_is = so.all_is ∙ ap (λ l. so.done ++ l) is ∙ sym (append_assoc so.done (v ∷ []) others);
    show = subst (ShowEach shows (so.done ++ v ∷ [])) (sym are) (show_more shows so.done found v x so.show one);
  }

  pub all_shown : (found : List X) (left : List T) → left ≡ [] → ShownSoFar shows all found left → ShowEach shows all found
  all_shown found left none so = subst (λ l. ShowEach shows l found) (sym (so.all_is ∙ ap (λ l. so.done ++ l) none ∙ append-nil so.done)) so.show

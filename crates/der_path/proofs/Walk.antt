-- The certificates are looked at in their order.
use Rattle.std.proofs.Common.{◌≡◌, ℕ, ◌+◌, ◌-◌, ◌≤◌, List, [], ◌∷◌, length, take, drop, get_or, Result, Ok, Err, refl, sym, ap, ◌∙◌, subst, arith}
use Rattle.der_verify.proofs.Steps.{others_are}
use Rattle.der_path.specs.declared.facts.Facts.{Facts}
use Rattle.der_path.specs.declared.facts.NameFacts.{NameFacts}
use Rattle.der_path.specs.declared.names.Part.{Part}
use Rattle.der_path.specs.declared.path.Inputs.{Inputs}
use Rattle.der_path.specs.declared.path.PathError.{PathError}
use Rattle.der_path.specs.declared.path.PathError.TheVariants as error
use Rattle.der_path.specs.declared.policy.Policy.{Policy}
use Rattle.der_path.specs.declared.state.Stop.{Stop}
use Rattle.der_path.specs.declared.state.Stop.TheVariants as stop
use Rattle.der_path.specs.declared.step.Step.{Step}
use Rattle.der_path.specs.Paths.{answer_from, at_index, fault_at, go_on, last_answer, next_state, Answers, Continues, SeenState}

pub front : {X : Type 0} (l : List X) (d item : X) (others : List X) → 1 ≤ length l → item ≡ get_or l 0 d → others ≡ take (length l - 1) (drop 1 l) → l ≡ item ∷ others
front [] d item others some at o = absurd (omega arith)
front (e ∷ es) d item others some at o = ap (λ x. x ∷ es) (sym at) ∙ ap (λ l. item ∷ l) (sym (others_are e es others o))

module _ (i : Inputs) (initial : NameFacts) (chain : List Facts) (at : ℕ) (issuer : List Part) (s : SeenState) (whole : Result (List Policy) PathError) (f : Facts) where
  -- the last certificate
  last_is : (others : List Facts) → length others ≡ 0 → answer_from i initial chain at issuer s (f ∷ others) ≡ at_index at (last_answer initial (take at chain) issuer f i s)
  last_is [] none = refl
  last_is (g ∷ gs) none = absurd (omega arith)

  -- another certificate
  next_is : (others : List Facts) → (length others ≡ 0 → ⊥) → answer_from i initial chain at issuer s (f ∷ others) ≡ go_on at (next_state initial (take at chain) issuer f i.moment s) (λ t. answer_from i initial chain (at + 1) f.subject.items t others)
  next_is [] some = absurd (some refl)
  next_is (g ∷ gs) some = refl

  module _ (l others : List Facts) (d : Facts) (so_far : answer_from i initial chain at issuer s l ≡ whole) (some : 1 ≤ length l) (first : f ≡ get_or l 0 d) (behind : others ≡ take (length l - 1) (drop 1 l)) where
    from_front : answer_from i initial chain at issuer s (f ∷ others) ≡ whole
    from_front = ap (answer_from i initial chain at issuer s) (sym (front l d f others some first behind)) ∙ so_far

    pub at_last : length others ≡ 0 → at_index at (last_answer initial (take at chain) issuer f i s) ≡ whole
    at_last none = sym (last_is others none) ∙ from_front

    pub goes_on : (length others ≡ 0 → ⊥) → (t : SeenState) (subject : List Part) → next_state initial (take at chain) issuer f i.moment s ≡ Ok t → subject ≡ f.subject.items → answer_from i initial chain (at + 1) subject t others ≡ whole
    goes_on more t subject next is =
        ap (λ p. answer_from i initial chain (at + 1) p t others) is ∙ sym (ap (λ r. go_on at r (λ t. answer_from i initial chain (at + 1) f.subject.items t others)) next) ∙ sym (next_is others more) ∙ from_front

    pub stops : (length others ≡ 0 → ⊥) → (x : Step) → next_state initial (take at chain) issuer f i.moment s ≡ Err x → whole ≡ Err (error.Refused at x)
    stops more x next =
        sym from_front ∙ next_is others more ∙ ap (λ r. go_on at r (λ t. answer_from i initial chain (at + 1) f.subject.items t others)) next

    pub stopped : (length others ≡ 0 → ⊥) → (why : Stop) (fault : PathError) → fault ≡ fault_at at why → Continues (next_state initial (take at chain) issuer f i.moment s) (Err why) → Answers whole (Err fault)
    stopped more stop.Memory fault is next = subst (λ e. Answers whole (Err e)) (sym is) tt
    stopped more (stop.At x) fault is next = subst (λ e. Answers whole (Err e)) (sym is) (stops more x next)

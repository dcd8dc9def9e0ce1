-- A chain that is validated after one anchor and another.
use Rattle.std.proofs.Common.{◌≡◌, ℕ, ◌+◌, ◌≤◌, Bool, true, false, List, [], ◌∷◌, length, drop, get_or, Err, ◌⊎◌, inl, inr, refl, sym, ap, ◌∙◌, subst, arith}
use Rattle.std.proofs.lemmas.Bool.{true≢false}
use Rattle.std.proofs.lemmas.List.{drop-drop, get_or-drop}
use Rattle.std.specs.Borrow.{Bor}
use Rattle.std.specs.Prelude.{Contains}
use Rattle.der_path.specs.declared.attempt.Judged.{Judged}
use Rattle.der_path.specs.declared.attempt.Judged.TheVariants as judged
use Rattle.der_path.specs.declared.attempt.Tried.{Tried}
use Rattle.der_path.specs.declared.attempt.Tried.TheVariants as tried
use Rattle.der_path.specs.declared.chain.Chain.{Chain}
use Rattle.der_path.specs.declared.keys.Anchor.{Anchor}
use Rattle.der_path.specs.declared.path.Inputs.{Inputs}
use Rattle.der_path.specs.declared.path.PathError.{PathError}
use Rattle.der_path.specs.declared.path.PathError.TheVariants as why
use Rattle.der_path.specs.Chains.{ChecksPath}
use Rattle.der_path.specs.Finding.{is_decided, refused_after, tried_after, EachRefuses, IsItem, IsRefusal, Judges, NamesMatch, Refuses, Tries}
use Rattle.der_path.proofs.Searching.{cons_cases}

-- an error other than memory
pub refusal : (chain : List (Bor (List ℕ))) (i : Inputs) (e : PathError) (a : Anchor) → (e ≡ why.Memory → ⊥) → ChecksPath a chain i (Err e) → IsRefusal chain i e a
refusal chain i why.Memory a other checks = absurd (other refl)
refusal chain i why.Empty a other checks = checks
refusal chain i (why.NotRead at x) a other checks = checks
refusal chain i (why.Unread at) a other checks = checks
refusal chain i (why.Refused at x) a other checks = checks

module _ (anchors : List Anchor) (chain : Chain) (i : Inputs) (at : ℕ) (a : Anchor) (due : Bool) where
  refused_on : (t : Tried) (e : PathError) → IsItem anchors at a → Tries anchors chain.octets.items i t → IsRefusal chain.octets.items i e a → Tries anchors chain.octets.items i (refused_after t at e)
  refused_on tried.Nothing e item so_far one = record { anchor = a; is_anchor = item; is_such = one }
  refused_on tried.Memory e item so_far one = tt
  refused_on (tried.Valid before path) e item so_far one = so_far
  refused_on (tried.Refused before other) e item so_far one = so_far

  pub tries_on : (t : Tried) (j : Judged) → IsItem anchors at a → Tries anchors chain.octets.items i t → Judges a chain i due j → Tries anchors chain.octets.items i (tried_after t at j)
  tries_on t judged.Memory item so_far one = tt
  tries_on t (judged.Valid path) item so_far one = record { anchor = a; is_anchor = item; is_such = one }
  tries_on t (judged.Refused e) item so_far one = refused_on t e item so_far one
  tries_on t judged.Other item so_far one = so_far

  -- an anchor that is due and does not end the trials has another name, or refuses the chain
  pub one_refuses : (t : Tried) (j : Judged) → is_decided (tried_after t at j) ≡ false → Judges a chain i due j → due ≡ true → NamesMatch a.name chain.first.issuer → Refuses a chain.octets.items i
  one_refuses t judged.Memory undecided one is_due match = absurd (true≢false undecided)
  one_refuses t (judged.Valid path) undecided one is_due match = absurd (true≢false undecided)
  one_refuses t (judged.Refused e) undecided one is_due match = (e, one)
  one_refuses t judged.Other undecided one is_due match = absurd (one is_due match)

-- one anchor more
module _ (anchors : List Anchor) (chain : Chain) (i : Inputs) (at from : ℕ) (left : List Anchor) (a : Anchor) (others : List Anchor) (front : left ≡ a ∷ others) where
  pub item_is : left ≡ drop at anchors → at + length left ≡ length anchors → IsItem anchors at a
  item_is place counted =
      let some : 1 ≤ length left = subst (λ l. 1 ≤ length l) (sym front) (omega arith) in
      let first : get_or left 0 a ≡ a = ap (λ l. get_or l 0 a) front in
      let at_front : get_or (drop at anchors) 0 a ≡ a = subst (λ l. get_or l 0 a ≡ a) place first in
      let here : at ≡ at + 0 = omega arith in
      (omega arith, ap (λ n. get_or anchors n a) here ∙ sym (get_or-drop at anchors 0 a) ∙ at_front)

  pub one_less : at + length left ≡ length anchors → at + 1 + length others ≡ length anchors
  one_less counted =
      let count : length left ≡ length (a ∷ others) = ap length front in
      omega arith

  pub still_placed : left ≡ drop at anchors → others ≡ drop (at + 1) anchors
  still_placed place = sym (ap (drop 1) front) ∙ ap (drop 1) place ∙ drop-drop 1 at anchors

  pub refused_by : (due : Bool) (t : Tried) (j : Judged) → (from ≡ 0 → due ≡ true) → is_decided (tried_after t at j) ≡ false → Judges a chain i due j
      → (from ≡ 0 → (x : Anchor) → Contains anchors x → Contains left x ⊎ (NamesMatch x.name chain.first.issuer → Refuses x chain.octets.items i))
      → from ≡ 0 → (x : Anchor) → Contains anchors x → Contains others x ⊎ (NamesMatch x.name chain.first.issuer → Refuses x chain.octets.items i)
  refused_by due t j is_due undecided one each first x held = elim (each first x held) [
    | inl in_left ↦ elim (cons_cases a x others (subst (λ s. Contains s x) front in_left)) [
      | inl same ↦ inr (subst (λ (y : Anchor). NamesMatch y.name chain.first.issuer → Refuses y chain.octets.items i) same (one_refuses anchors chain i at a due t j undecided one (is_due first)))
      | inr more ↦ inl more
    ]
    | inr done ↦ inr done
  ]

-- no anchor is left
pub all_refused : (anchors : List Anchor) (chain : Chain) (i : Inputs) (from : ℕ) (left : List Anchor) → left ≡ []
    → (from ≡ 0 → (x : Anchor) → Contains anchors x → Contains left x ⊎ (NamesMatch x.name chain.first.issuer → Refuses x chain.octets.items i))
    → from ≡ 0 → EachRefuses anchors chain.octets.items chain.first i
all_refused anchors chain i from left none each first x held = elim (each first x held) [
  | inl in_left ↦ absurd (let no = (subst (λ s. Contains s x) none in_left).1 in omega (arith, no))
  | inr done ↦ done
]

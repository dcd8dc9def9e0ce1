-- The encodings of policies that are written one after another.
use Rattle.std.proofs.Common.{◌≡◌, ℕ, ◌-◌, ◌≤◌, List, [], ◌∷◌, ◌++◌, length, take, drop, get_or, flat_map, sym, ap, ◌∙◌, append_assoc, arith}
use Rattle.std.proofs.lemmas.List.{append-nil}
use Rattle.std.proofs.Math.Seq.{take-length}
use Rattle.der_path.specs.declared.policy.Policy.{Policy}
use Rattle.der_path.specs.PolicyLists.{policy_octets}

pub first_left : (l : List Policy) (d item : Policy) (others : List Policy) → 1 ≤ length l → item ≡ get_or l 0 d → others ≡ take (length l - 1) (drop 1 l) → l ≡ item ∷ others
first_left [] d item others some at o = absurd (omega arith)
first_left (e ∷ es) d item others some at o =
    let count : length (e ∷ es) - 1 ≡ length es = omega arith in
    ap (λ x. x ∷ es) (sym at) ∙ ap (λ l. item ∷ l) (sym (o ∙ ap (λ k. take k es) count ∙ take-length es))

-- what is written, and what the policies that are left will add
abbrev pub SoFar : List Policy → List Policy → List ℕ → Type 0
SoFar policies left octets = octets ++ flat_map policy_octets left ≡ flat_map policy_octets policies

pub one_more : (policies left others : List Policy) (p : Policy) (octets own more : List ℕ) → SoFar policies left octets → left ≡ p ∷ others → own ≡ policy_octets p → more ≡ octets ++ own → SoFar policies others more
one_more policies left others p octets own more so is one are =
    ap (λ o. o ++ flat_map policy_octets others) (are ∙ ap (λ o. octets ++ o) one) ∙ append_assoc octets (policy_octets p) (flat_map policy_octets others) ∙ ap (λ l. octets ++ flat_map policy_octets l) (sym is) ∙ so

pub all_written : (policies left : List Policy) (octets : List ℕ) → SoFar policies left octets → left ≡ [] → octets ≡ flat_map policy_octets policies
all_written policies left octets so none = sym (append-nil octets) ∙ ap (λ l. octets ++ flat_map policy_octets l) (sym none) ∙ so

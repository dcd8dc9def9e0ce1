-- A list is read from its front: the items that pass a test, in their order.
use Rattle.std.proofs.Common.{◌≡◌, ◌-◌, ◌≤◌, Bool, true, false, List, [], ◌∷◌, ◌++◌, length, take, drop, get_or, cond, sym, ap, ◌∙◌, append_assoc, arith}
use Rattle.std.specs.Prelude.{filter}
use Rattle.std.proofs.Math.Seq.{take-length}

-- what is left after the first
pub others_are : {X : Type 0} (e : X) (es others : List X) → others ≡ take (length (e ∷ es) - 1) es → others ≡ es
others_are e es others o = let n : length (e ∷ es) - 1 ≡ length es = omega arith in o ∙ ap (λ n. take n es) n ∙ take-length es

pub passing : {X : Type 0} (test : X → Bool) (e : X) (es : List X) → test e ≡ true → filter test (e ∷ es) ≡ e ∷ filter test es
passing test e es t = ap (λ b. cond b (e ∷ filter test es) (filter test es)) t

pub failing : {X : Type 0} (test : X → Bool) (e : X) (es : List X) → test e ≡ false → filter test (e ∷ es) ≡ filter test es
failing test e es t = ap (λ b. cond b (e ∷ filter test es) (filter test es)) t

-- an item that fails is left out
pub left_out : {X : Type 0} (test : X → Bool) (found l all : List X) (item d : X) (others : List X) → found ++ filter test l ≡ filter test all → 1 ≤ length l → item ≡ get_or l 0 d → others ≡ take (length l - 1) (drop 1 l) → test item ≡ false → found ++ filter test others ≡ filter test all
left_out test found [] all item d others i some at o t = absurd (omega arith)
left_out test found (e ∷ es) all item d others i some at o t =
    ap (λ l. found ++ filter test l) (others_are e es others o) ∙ ap (λ l. found ++ l) (sym (failing test e es (ap test (sym at) ∙ t))) ∙ i

-- an item that passes is found
pub taken : {X : Type 0} (test : X → Bool) (found l all : List X) (item d : X) (others more : List X) → found ++ filter test l ≡ filter test all → 1 ≤ length l → item ≡ get_or l 0 d → others ≡ take (length l - 1) (drop 1 l) → test item ≡ true → more ≡ found ++ item ∷ [] → more ++ filter test others ≡ filter test all
taken test found [] all item d others more i some at o t m = absurd (omega arith)
taken test found (e ∷ es) all item d others more i some at o t m =
    ap (λ l. more ++ filter test l) (others_are e es others o) ∙ ap (λ l. l ++ filter test es) (m ∙ ap (λ x. found ++ x ∷ []) at)
    ∙ append_assoc found (e ∷ []) (filter test es) ∙ ap (λ l. found ++ l) (sym (passing test e es (ap test (sym at) ∙ t))) ∙ i

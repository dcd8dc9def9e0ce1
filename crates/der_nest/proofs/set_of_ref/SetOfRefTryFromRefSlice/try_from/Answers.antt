use Rattle.std.proofs.Common.{rules, ◌≡◌, ◌<◌, ◌∷◌, ◌++◌, ◌+◌, length, take, drop, get_or, sym, ap, ◌∙◌, subst}
use Rattle.std.proofs.Math.Seq.{take-length}
use Rattle.std.proofs.lemmas.List.{take-append-drop}
use Rattle.der_elem.proofs.Ordered.{item_first}
use Rattle.der_nest.specs.Places.{IsInOrder}
use Rattle.der_nest.proofs.set_of_ref.SetOfRefTryFromRefSlice.try_from.Goals as goal

pub returns-in-Err : goal.returns-in-Err
returns-in-Err g c =
    let xs = c.args.items.now in
    let i = c.items.i in
    let x = c.index-items-i.result in
    let inside : i < length xs = search rules in
    let here : get_or xs i x ≡ x = search rules in
    let parts : xs ≡ take i xs ++ x ∷ drop (i + 1) xs = sym (take-append-drop i xs) ∙ ap (λ ys. take i xs ++ ys) (item_first xs i x inside here) in
    (c.from_kind.ensures.kind, (take i xs, x, drop (i + 1) xs, c.in-Err.field-0.kind, parts, c.in-Err.ensures.refused))

pub of_ordered-requires : goal.of_ordered-requires
of_ordered-requires g c =
    let xs = c.args.items.now in
    let all : c.items.i ≡ length xs = search rules in
    subst (IsInOrder g.T.Form.encoding) (ap (λ n. take n xs) all ∙ take-length xs) c.items.invariant

use Rattle.std.proofs.Common.{length, nat_cmp, ap, ap₂, sym, ◌∙◌, to_z-of_z}
use Rattle.der_elem.specs.Integer.{left_aligned, integer_contents}
use Rattle.der_elem.proofs.IntegerOrder.{integers_tied, integers_decided}
use Rattle.der_elem.proofs.integer.ordering.compare_signed.Goals as goal

pub returns-in-Equal : goal.returns-in-Equal
returns-in-Equal c =
    let a = to_z-of_z c.ranges.a in
    let b = to_z-of_z c.ranges.b in
    let numbers = ap₂ nat_cmp (c.aligned_contents.ensures ∙ ap (λ y. left_aligned 16 (integer_contents y)) a) (c.aligned_contents-2.ensures ∙ ap (λ y. left_aligned 16 (integer_contents y)) b) in
    c.cmp-in-Equal.ensures
    ∙ ap₂ nat_cmp (c.signed_len.ensures.len ∙ ap (λ y. length (integer_contents y)) a) (c.signed_len-in-Equal.ensures.len ∙ ap (λ y. length (integer_contents y)) b)
    ∙ integers_tied c.args.a c.args.b c.ranges.a c.ranges.b (sym numbers ∙ sym c.in-Equal.ensures)

pub returns-in_default : goal.returns-in_default
returns-in_default c =
    let a = to_z-of_z c.ranges.a in
    let b = to_z-of_z c.ranges.b in
    let numbers = c.cmp.ensures ∙ ap₂ nat_cmp (c.aligned_contents.ensures ∙ ap (λ y. left_aligned 16 (integer_contents y)) a) (c.aligned_contents-2.ensures ∙ ap (λ y. left_aligned 16 (integer_contents y)) b) in
    numbers ∙ integers_decided c.args.a c.args.b c.ranges.a c.ranges.b (λ e. c.in_default.not-Equal (numbers ∙ e))

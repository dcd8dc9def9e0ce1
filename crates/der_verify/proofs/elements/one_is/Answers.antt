use Rattle.std.proofs.Common.{true, false, sym, ◌∙◌}
use Rattle.der_verify.proofs.Walks.{still_end, still_go}
use Rattle.der_verify.proofs.elements.one_is.Goals as goal

pub returns-then-passes : goal.returns-then-passes
returns-then-passes g c =
    (still_go (g.P.ElementTest.passes c.args.test.now) c.args.octets.now c.each.left.now c.in-Some.identifier c.in-Some.contents.now c.in-Some.others.now true (sym c.in-Some.ensures.value) c.in-Some.ensures.shorter (sym c.if-passes.true ∙ c.passes.ensures) c.each.invariant).2

pub each-preserved : goal.each-preserved
each-preserved g c =
    still_go (g.P.ElementTest.passes c.args.test.now) c.args.octets.now c.each.left.now c.in-Some.identifier c.in-Some.contents.now c.in-Some.others.now false (sym c.in-Some.ensures.value) c.in-Some.ensures.shorter (sym c.if-passes.false ∙ c.passes.ensures) c.each.invariant

pub returns : goal.returns
returns g c =
    still_end (g.P.ElementTest.passes c.args.test.now) c.args.octets.now c.each.left.now (sym (rw c.in_default.is at c.front.ensures.value)) c.each.invariant

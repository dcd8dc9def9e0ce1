use Rattle.std.proofs.Common.{true, false, refl, sym, ◌∙◌}
use Rattle.der_verify.proofs.ShownItems.{never_shown, all_go, all_end}
use Rattle.der_verify.proofs.shown.all_pass.Goals as goal

pub each-init : goal.each-init
each-init g c = λ all a. (all, a, refl)

pub returns-in_default-item : goal.returns-in_default-item
returns-in_default-item g c = λ free all a.
    let so = c.each.invariant all a in
    absurd (never_shown g.T.Form (g.P.ShownTest.shows c.args.test.now) free c.each.left c.next.new.self so.0 c.in_default-item.field-0 so.1 (rw c.in_default-item.is at c.in-Some.ensures.steps))

pub returns-then-not-passes : goal.returns-then-not-passes
returns-then-not-passes g c = λ free all a.
    (all_go g.T.Form (g.P.ShownTest.shows c.args.test.now) (g.P.ShownTest.passes c.args.test.now) c.args.items (g.met.P.ShownTest.respects c.args.test.now) c.each.left c.next.new.self c.in-Ok.item false c.each.invariant (rw c.in-Ok.is at c.in-Some.ensures.steps) (λ x s. sym c.if-not-passes.true ∙ c.passes.ensures x s) all a).2

pub each-preserved : goal.each-preserved
each-preserved g c =
    all_go g.T.Form (g.P.ShownTest.shows c.args.test.now) (g.P.ShownTest.passes c.args.test.now) c.args.items (g.met.P.ShownTest.respects c.args.test.now) c.each.left c.next.new.self c.in-Ok.item true c.each.invariant (rw c.in-Ok.is at c.in-Some.ensures.steps) (λ x s. sym c.if-not-passes.false ∙ c.passes.ensures x s)

pub returns : goal.returns
returns g c = λ free.
    all_end g.T.Form (g.P.ShownTest.shows c.args.test.now) (g.P.ShownTest.passes c.args.test.now) c.args.items c.each.left c.next.new.self c.each.invariant (rw c.in_default.is at c.next.ensures.steps)

use Rattle.std.proofs.Common.{sym, ◌∙◌}
use Rattle.der_lists.proofs.TestedItems.{all_begin, one_fails, all_go, all_refused, all_end}
use Rattle.der_lists.proofs.item_iter.ItemIter.has_all.Goals as goal

pub each-init : goal.each-init
each-init g c = all_begin g.T.Form (g.P.ItemTest.passes c.args.test.now) c.args.self

pub returns-then-not-passes : goal.returns-then-not-passes
returns-then-not-passes g c = λ free.
    let on = rw c.in-Ok.is at c.in-Some.ensures.steps in
    one_fails g.T.Form (g.P.ItemTest.passes c.args.test.now) c.args.self (g.met.P.ItemTest.respects c.args.test.now) c.each.self c.next.new.self c.in-Ok.item c.each.invariant on (sym c.passes.ensures ∙ c.if-not-passes.true)

pub each-preserved : goal.each-preserved
each-preserved g c =
    let on = rw c.in-Ok.is at c.in-Some.ensures.steps in
    all_go g.T.Form (g.P.ItemTest.passes c.args.test.now) c.args.self (g.met.P.ItemTest.respects c.args.test.now) c.each.self c.next.new.self c.in-Ok.item c.each.invariant on (sym c.passes.ensures ∙ c.if-not-passes.false)

pub returns-in-Err : goal.returns-in-Err
returns-in-Err g c = λ free.
    let on = rw c.in-Err.is at c.in-Some.ensures.steps in
    all_refused g.T.Form (g.P.ItemTest.passes c.args.test.now) c.args.self free c.each.self c.next.new.self c.in-Err._error c.each.invariant on

pub returns : goal.returns
returns g c = λ free.
    all_end g.T.Form (g.P.ItemTest.passes c.args.test.now) c.args.self c.each.self c.next.new.self c.each.invariant (rw c.in_default.is at c.next.ensures.steps)

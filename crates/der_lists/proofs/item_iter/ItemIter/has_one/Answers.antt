use Rattle.std.proofs.Common.{sym, ◌∙◌}
use Rattle.der_lists.proofs.TestedItems.{some_begins, some_found, some_goes, some_refused, some_ends}
use Rattle.der_lists.proofs.item_iter.ItemIter.has_one.Goals as goal

pub each-init : goal.each-init
each-init g c = some_begins g.T.Form (g.P.ItemTest.passes c.args.test.now) c.args.self

pub returns-then-passes : goal.returns-then-passes
returns-then-passes g c = λ free.
    let on = rw c.in-Ok.is at c.in-Some.ensures.steps in
    some_found g.T.Form (g.P.ItemTest.passes c.args.test.now) c.args.self (g.met.P.ItemTest.respects c.args.test.now) c.each.self c.next.new.self c.in-Ok.item c.each.invariant on (sym c.passes.ensures ∙ c.if-passes.true)

pub each-preserved : goal.each-preserved
each-preserved g c =
    let on = rw c.in-Ok.is at c.in-Some.ensures.steps in
    some_goes g.T.Form (g.P.ItemTest.passes c.args.test.now) c.args.self (g.met.P.ItemTest.respects c.args.test.now) c.each.self c.next.new.self c.in-Ok.item c.each.invariant on (sym c.passes.ensures ∙ c.if-passes.false)

pub returns-in-Err : goal.returns-in-Err
returns-in-Err g c = λ free.
    let on = rw c.in-Err.is at c.in-Some.ensures.steps in
    some_refused g.T.Form (g.P.ItemTest.passes c.args.test.now) c.args.self free c.each.self c.next.new.self c.in-Err._error c.each.invariant on

pub returns : goal.returns
returns g c = λ free.
    some_ends g.T.Form (g.P.ItemTest.passes c.args.test.now) c.args.self c.each.self c.next.new.self c.each.invariant (rw c.in_default.is at c.next.ensures.steps)

use Rattle.std.proofs.Common.{true, false, sym, ◌∙◌}
use Rattle.der_verify.proofs.ShownItems.{never_shown, pairs_begin, pairs_end, pairs_fewer, pairs_go, pairs_more}
use Rattle.der_verify.proofs.shown.pairs_pass.Goals as goal

pub each-init : goal.each-init
each-init g c = pairs_begin g.T.Form (g.P.PairTest.shows c.args.test.now) (g.P.PairTest.passes c.args.test.now) c.args.first c.args.second

pub returns-in_default-item : goal.returns-in_default-item
returns-in_default-item g c = λ free xs ys a b.
    let so = c.each.invariant xs ys a b in
    absurd (never_shown g.T.Form (g.P.PairTest.shows c.args.test.now) free c.each.left c.next.new.self so.0 c.in_default-item.field-0 so.2 (rw c.in_default-item.is at c.in-Some.ensures.steps))

pub returns-in_default-next : goal.returns-in_default-next
returns-in_default-next g c = λ free.
    pairs_fewer g.T.Form (g.P.PairTest.shows c.args.test.now) (g.P.PairTest.passes c.args.test.now) c.args.first c.args.second (g.met.P.PairTest.respects c.args.test.now) c.each.left c.next.new.self c.each.right c.next-in-Some.new.self c.in-Ok.item c.each.invariant (rw c.in-Ok.is at c.in-Some.ensures.steps) (rw c.in_default-next.is at c.next-in-Some.ensures.steps)

pub returns-in_default-other : goal.returns-in_default-other
returns-in_default-other g c = λ free xs ys a b.
    let so = c.each.invariant xs ys a b in
    absurd (never_shown g.T.Form (g.P.PairTest.shows c.args.test.now) free c.each.right c.next-in-Some.new.self so.1 c.in_default-other.field-0 so.3 (rw c.in_default-other.is at c.in-Some-next.ensures.steps))

pub returns-then-not-passes : goal.returns-then-not-passes
returns-then-not-passes g c = λ free xs ys a b.
    (pairs_go g.T.Form (g.P.PairTest.shows c.args.test.now) (g.P.PairTest.passes c.args.test.now) c.args.first c.args.second (g.met.P.PairTest.respects c.args.test.now) c.each.left c.next.new.self c.each.right c.next-in-Some.new.self c.in-Ok.item c.in-Ok-other.other false c.each.invariant (rw c.in-Ok.is at c.in-Some.ensures.steps) (rw c.in-Ok-other.is at c.in-Some-next.ensures.steps) (λ x y s r. sym c.if-not-passes.true ∙ c.passes.ensures x y s r) xs ys a b).4

pub each-preserved : goal.each-preserved
each-preserved g c =
    pairs_go g.T.Form (g.P.PairTest.shows c.args.test.now) (g.P.PairTest.passes c.args.test.now) c.args.first c.args.second (g.met.P.PairTest.respects c.args.test.now) c.each.left c.next.new.self c.each.right c.next-in-Some.new.self c.in-Ok.item c.in-Ok-other.other true c.each.invariant (rw c.in-Ok.is at c.in-Some.ensures.steps) (rw c.in-Ok-other.is at c.in-Some-next.ensures.steps) (λ x y s r. sym c.if-not-passes.false ∙ c.passes.ensures x y s r)

pub returns-in-Some-next-2 : goal.returns-in-Some-next-2
returns-in-Some-next-2 g c = λ free.
    pairs_more g.T.Form (g.P.PairTest.shows c.args.test.now) (g.P.PairTest.passes c.args.test.now) c.args.first c.args.second (g.met.P.PairTest.respects c.args.test.now) free c.each.left c.next.new.self c.each.right c.next-2.new.self c.in-Some-next-2._other c.each.invariant (rw c.in_default.is at c.next.ensures.steps) c.in-Some-next-2.ensures.steps

pub returns-in-None : goal.returns-in-None
returns-in-None g c = λ free.
    pairs_end g.T.Form (g.P.PairTest.shows c.args.test.now) (g.P.PairTest.passes c.args.test.now) c.args.first c.args.second c.each.left c.next.new.self c.each.right c.next-2.new.self c.each.invariant (rw c.in_default.is at c.next.ensures.steps) (rw c.in-None.is at c.next-2.ensures.steps)

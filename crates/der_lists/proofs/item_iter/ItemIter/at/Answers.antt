use Rattle.std.proofs.Common.{◌≡◌, length, sym, ap, subst, arith, add-one}
use Rattle.std.proofs.lemmas.List.{length-drop}
use Rattle.der_lists.specs.ReadingOn.{encodings_to_come}
use Rattle.der_lists.proofs.RereadItems.{SkippedOn, none_skipped_on, one_more_skipped_on, next_there}
use Rattle.der_lists.proofs.item_iter.ItemIter.at.Goals as goal

pub skipped-init : goal.skipped-init
skipped-init g c = none_skipped_on g.T.Form c.args.self

pub returns-in-None : goal.returns-in-None
returns-in-None g c = λ has.
    let all = encodings_to_come g.T.Form.parse c.args.self in
    let before = c.skipped.invariant.items has in
    let told = (c.in-None.ensures.steps.items before.1).0 in
    let l = length-drop c.skipped._i all in
    let left = c.skipped-test.true in
    omega (arith, ap length (sym before.0), ap length told.0)

pub returns-in-Some-Err : goal.returns-in-Some-Err
returns-in-Some-Err g c = λ has.
    let before = c.skipped.invariant.items has in
    let steps = rw c.in-Some-Err.field-0-is at c.in-Some-Err.ensures.steps in
    let told = (steps.items before.1).0 in
    (told.0, told.1)

pub skipped-preserved : goal.skipped-preserved
skipped-preserved g c =
    let told = rw c.in-Some-Ok.field-0-is at c.in-Some-Ok.ensures.steps in
    subst (SkippedOn g.T.Form c.args.self c.next.new.self) (sym (add-one c.skipped._i)) (one_more_skipped_on g.T.Form c.args.self c.skipped.invariant told)

pub returns : goal.returns
returns g c = λ has.
    let end : c.skipped._i ≡ c.args.index = omega (arith, c.skipped-test.false) in
    next_there g.T.Form c.args.self c.next-2.result (subst (SkippedOn g.T.Form c.args.self _) end c.skipped.invariant) c.next-2.ensures.steps has

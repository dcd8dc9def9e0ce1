use Rattle.der_verify.proofs.ShownItems.{never_shown}
use Rattle.der_c.proofs.JoinedParts.{count_begins, count_ends, count_goes}
use Rattle.der_c.proofs.joined_text.joined_length.Goals as goal

pub each-init : goal.each-init
each-init g c = count_begins g.T.Form (g.P.ItemText.shows c.args.texts.now) c.args.items

pub returns-in_default-item : goal.returns-in_default-item
returns-in_default-item g c = λ free shown a.
    let so = (c.each.invariant shown a).so_far in
    absurd (never_shown g.T.Form (g.P.ItemText.shows c.args.texts.now) free c.each.left c.next.new.self so.left c.in_default-item.field-0 so.to_come (rw c.in_default-item.is at c.in-Some.ensures.steps))

pub each-preserved : goal.each-preserved
each-preserved g c =
    count_goes g.T.Form (g.P.ItemText.shows c.args.texts.now) (g.met.P.ItemText.respects c.args.texts.now) c.args.items c.each.left c.next.new.self c.each.is_first c.in-Ok.item c.put_text-own.new.room c.put_text-own.result c.each.count c.length_of_both-count.result
    c.each.invariant (rw c.in-Ok.is at c.in-Some.ensures.steps) c.put_text-own.ensures c.length_of_both-count.ensures

pub returns : goal.returns
returns g c = λ free.
    count_ends g.T.Form (g.P.ItemText.shows c.args.texts.now) c.args.items c.each.left c.next.new.self c.each.is_first c.each.count c.each.invariant (rw c.in_default.is at c.next.ensures.steps)

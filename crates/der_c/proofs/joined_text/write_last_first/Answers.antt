use Rattle.der_verify.proofs.ShownItems.{never_shown}
use Rattle.der_c.proofs.JoinedParts.{write_begins, write_ends, write_goes}
use Rattle.der_c.proofs.joined_text.write_last_first.Goals as goal

pub each-init : goal.each-init
each-init g c = write_begins g.T.Form (g.P.ItemText.shows c.args.texts.now) c.args.items c.args.count c.args.room.now

pub returns-in_default-item : goal.returns-in_default-item
returns-in_default-item g c = λ free shown a size fits.
    let so = (c.each.invariant shown a size fits).so_far in
    absurd (never_shown g.T.Form (g.P.ItemText.shows c.args.texts.now) free c.each.left c.next.new.self so.left c.in_default-item.field-0 so.to_come (rw c.in_default-item.is at c.in-Some.ensures.steps))

pub each-preserved : goal.each-preserved
each-preserved g c =
    write_goes g.T.Form (g.P.ItemText.shows c.args.texts.now) (g.met.P.ItemText.respects c.args.texts.now) c.args.items c.each.left c.next.new.self c.each.is_first c.in-Ok.item c.args.count c.args.room.now c.each.room c.put_before-end.new.room c.each.end c.put_before-end.result
    c.each.auto.room c.each.invariant (rw c.in-Ok.is at c.in-Some.ensures.steps) c.put_before-end.ensures

pub returns : goal.returns
returns g c = λ free.
    write_ends g.T.Form (g.P.ItemText.shows c.args.texts.now) c.args.items c.each.left c.next.new.self c.each.is_first c.args.count c.args.room.now c.each.room c.each.end c.each.invariant (rw c.in_default.is at c.next.ensures.steps)

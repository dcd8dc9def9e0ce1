use Rattle.std.proofs.Common.{arith}
use Rattle.der_verify.proofs.ShownItems.{never_shown}
use Rattle.der_c.proofs.JoinedParts.{put_begins, put_ends, put_goes}
use Rattle.der_c.proofs.joined_text.put_joined.Goals as goal

pub each-init : goal.each-init
each-init g c = put_begins g.T.Form (g.P.ItemText.shows c.args.texts.now) c.args.items c.args.room.now c.args.position (omega arith)

pub returns-in_default-item : goal.returns-in_default-item
returns-in_default-item g c = λ free shown a.
    let so = (c.each.invariant shown a).so_far in
    absurd (never_shown g.T.Form (g.P.ItemText.shows c.args.texts.now) free c.each.left c.next.new.self so.left c.in_default-item.field-0 so.to_come (rw c.in_default-item.is at c.in-Some.ensures.steps))

pub each-preserved : goal.each-preserved
each-preserved g c =
    put_goes g.T.Form (g.P.ItemText.shows c.args.texts.now) (g.met.P.ItemText.respects c.args.texts.now) c.args.items c.each.left c.next.new.self c.each.is_first c.in-Ok.item c.args.room.now c.each.room c.put_unless_first-next.new.room c.put_text-next.new.room c.args.position c.each.next c.put_unless_first-next.result c.put_text-next.result (omega arith) (omega arith)
    c.each.invariant (rw c.in-Ok.is at c.in-Some.ensures.steps) c.put_unless_first-next.ensures c.put_text-next.ensures

pub returns : goal.returns
returns g c = λ free.
    put_ends g.T.Form (g.P.ItemText.shows c.args.texts.now) c.args.items c.each.left c.next.new.self c.each.is_first c.args.room.now c.each.room c.args.position c.each.next c.each.invariant (rw c.in_default.is at c.next.ensures.steps)

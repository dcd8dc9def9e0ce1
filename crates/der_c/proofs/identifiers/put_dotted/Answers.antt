use Rattle.std.proofs.Common.{length, arith}
use Rattle.der_c.proofs.DottedParts.{all_put, no_more, none_at_all, nothing_put, put_more, shorter, tested_none, tested_some}
use Rattle.der_c.proofs.identifiers.put_dotted.Goals as goal

pub loop-left-init : goal.loop-left-init
loop-left-init c = nothing_put c.args.contents.now c.args.room.now c.args.position (omega arith)

pub loop-left-preserved : goal.loop-left-preserved
loop-left-preserved c = put_more c.args.contents.now c.loop-left.left.now c.in-Some.others.now c.args.room.now c.loop-left.room c.put_arcs-next.new.room c.args.position c.loop-left.next c.put_arcs-next.result c.in-Some.number c.loop-left.is_first (omega arith) c.in-Some.ensures.0 c.loop-left.invariant c.in-Some.ensures.1 c.put_arcs-next.ensures

pub loop-left-smaller : goal.loop-left-smaller
loop-left-smaller c = shorter c.loop-left.left.now c.in-Some.others.now c.in-Some.number c.in-Some.ensures.1

pub returns-in_default : goal.returns-in_default
returns-in_default c = no_more c.args.contents.now c.loop-left.left.now c.loop-left.invariant.numbers c.loop-left.is_first c.loop-left.invariant.read (tested_some c.is_empty.result (length c.loop-left.left.now) c.is_empty.ensures c.loop-left-test.true) c.in_default.ensures

pub returns-then-is_first : goal.returns-then-is_first
returns-then-is_first c = none_at_all c.args.contents.now c.loop-left.left.now c.loop-left.invariant.numbers c.loop-left.is_first c.loop-left.invariant.read c.if-is_first.true (tested_none c.is_empty.result (length c.loop-left.left.now) c.is_empty.ensures c.loop-left-test.false)

pub returns-else-is_first : goal.returns-else-is_first
returns-else-is_first c = all_put c.args.contents.now c.loop-left.left.now c.args.room.now c.loop-left.room c.args.position c.loop-left.next c.loop-left.is_first c.loop-left.invariant c.if-is_first.false (tested_none c.is_empty.result (length c.loop-left.left.now) c.is_empty.ensures c.loop-left-test.false)

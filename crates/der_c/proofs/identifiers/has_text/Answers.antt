use Rattle.std.proofs.Common.{length}
use Rattle.der_c.proofs.DottedParts.{compared, match_more, no_more, none_at_all, not_matched, nothing_matched, shorter, tested_none, tested_some}
use Rattle.der_c.proofs.identifiers.has_text.Goals as goal

pub loop-left-init : goal.loop-left-init
loop-left-init c = nothing_matched c.args.contents.now c.args.text.now

pub loop-left-preserved : goal.loop-left-preserved
loop-left-preserved c = match_more c.args.contents.now c.loop-left.left.now c.in-Some.others.now c.args.text.now c.loop-left.rest.now c.in-Some-behind_arcs.behind.now c.in-Some.number c.loop-left.is_first c.in-Some.ensures.0 c.loop-left.invariant c.in-Some.ensures.1 c.in-Some-behind_arcs.ensures

pub loop-left-smaller : goal.loop-left-smaller
loop-left-smaller c = shorter c.loop-left.left.now c.in-Some.others.now c.in-Some.number c.in-Some.ensures.1

pub returns-in_default : goal.returns-in_default
returns-in_default c = no_more c.args.contents.now c.loop-left.left.now c.loop-left.invariant.numbers c.loop-left.is_first c.loop-left.invariant.read (tested_some c.is_empty.result (length c.loop-left.left.now) c.is_empty.ensures c.loop-left-test.true) c.in_default.ensures c.args.text.now

pub returns-in_default-behind_arcs : goal.returns-in_default-behind_arcs
returns-in_default-behind_arcs c = not_matched c.args.contents.now c.loop-left.left.now c.in-Some.others.now c.args.text.now c.loop-left.rest.now c.in-Some.number c.loop-left.is_first c.loop-left.invariant c.in-Some.ensures.1 c.in_default-behind_arcs.ensures

pub returns-then-is_first : goal.returns-then-is_first
returns-then-is_first c = none_at_all c.args.contents.now c.loop-left.left.now c.loop-left.invariant.numbers c.loop-left.is_first c.loop-left.invariant.read c.if-is_first.true (tested_none c.is_empty.result (length c.loop-left.left.now) c.is_empty.ensures c.loop-left-test.false) c.args.text.now

pub returns : goal.returns
returns c = compared c.args.contents.now c.loop-left.left.now c.args.text.now c.loop-left.rest.now c.loop-left.is_first c.is_empty-2.result c.loop-left.invariant c.if-is_first.false (tested_none c.is_empty.result (length c.loop-left.left.now) c.is_empty.ensures c.loop-left-test.false) c.is_empty-2.ensures

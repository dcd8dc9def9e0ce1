use Rattle.std.proofs.Common.{length}
use Rattle.der_c.proofs.DottedParts.{PutSoFar}
use Rattle.der_c.proofs.identifiers.put_dotted.Given as goal

abbrev pub invariant-loop-left : goal.invariant-loop-left
invariant-loop-left l = PutSoFar l.contents l.left l.fn.room l.position l.room l.next l.is_first

abbrev pub decreases-loop-left : goal.decreases-loop-left
decreases-loop-left l = length l.left

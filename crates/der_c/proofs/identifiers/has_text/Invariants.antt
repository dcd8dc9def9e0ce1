use Rattle.std.proofs.Common.{length}
use Rattle.der_c.proofs.DottedParts.{MatchedSoFar}
use Rattle.der_c.proofs.identifiers.has_text.Given as goal

abbrev pub invariant-loop-left : goal.invariant-loop-left
invariant-loop-left l = MatchedSoFar l.contents l.left l.text l.rest l.is_first

abbrev pub decreases-loop-left : goal.decreases-loop-left
decreases-loop-left l = length l.left

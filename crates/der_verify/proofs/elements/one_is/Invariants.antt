use Rattle.std.proofs.Common.{length}
use Rattle.der_verify.proofs.Walks.{StillOne}
use Rattle.der_verify.proofs.elements.one_is.Given as goal

abbrev pub invariant-each : goal.invariant-each
invariant-each g l = StillOne (g.P.ElementTest.passes l.test) l.octets l.left

abbrev pub decreases-each : goal.decreases-each
decreases-each g l = length l.left

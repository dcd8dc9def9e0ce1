use Rattle.std.proofs.Common.{length}
use Rattle.der_lists.specs.ReadingOn.{octets_to_come}
use Rattle.der_verify.proofs.ShownItems.{PairsLeft}
use Rattle.der_verify.proofs.shown.pairs_pass.Given as goal

abbrev pub invariant-each : goal.invariant-each
invariant-each g l = PairsLeft g.T.Form (g.P.PairTest.shows l.test) (g.P.PairTest.passes l.test) l.fn.first l.fn.second l.left l.right

abbrev pub decreases-each : goal.decreases-each
decreases-each g l = length (octets_to_come l.left)

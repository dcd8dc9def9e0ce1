use Rattle.std.proofs.Common.{length}
use Rattle.der_lists.specs.ReadingOn.{octets_to_come}
use Rattle.der_verify.proofs.ShownItems.{AllLeft}
use Rattle.der_verify.proofs.shown.all_pass.Given as goal

abbrev pub invariant-each : goal.invariant-each
invariant-each g l = AllLeft g.T.Form (g.P.ShownTest.shows l.test) (g.P.ShownTest.passes l.test) l.fn.items l.left

abbrev pub decreases-each : goal.decreases-each
decreases-each g l = length (octets_to_come l.left)

use Rattle.std.proofs.Common.{length}
use Rattle.der_lists.specs.ReadingOn.{octets_to_come}
use Rattle.der_lists.proofs.TestedItems.{AllLeft}
use Rattle.der_lists.proofs.item_iter.ItemIter.has_all.Given as goal

abbrev pub invariant-each : goal.invariant-each
invariant-each g l = AllLeft g.T.Form (g.P.ItemTest.passes l.test) l.fn.self l.self

abbrev pub decreases-each : goal.decreases-each
decreases-each g l = length (octets_to_come l.self)

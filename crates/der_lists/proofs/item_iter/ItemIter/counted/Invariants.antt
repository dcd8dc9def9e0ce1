use Rattle.std.proofs.Common.{length}
use Rattle.der_lists.specs.ReadingOn.{octets_to_come}
use Rattle.der_lists.proofs.RereadItems.{CountedOn}
use Rattle.der_lists.proofs.item_iter.ItemIter.counted.Given as goal

abbrev pub invariant-items : goal.invariant-items
invariant-items g l = CountedOn g.T.Form l.fn.self l.self l.count

abbrev pub decreases-items : goal.decreases-items
decreases-items g l = length (octets_to_come l.self)

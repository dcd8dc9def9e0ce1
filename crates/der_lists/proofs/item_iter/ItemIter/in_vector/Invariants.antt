use Rattle.std.proofs.Common.{length}
use Rattle.der_lists.specs.ReadingOn.{octets_to_come}
use Rattle.der_lists.proofs.RereadItems.{ListedOn}
use Rattle.der_lists.proofs.item_iter.ItemIter.in_vector.Given as goal

abbrev pub invariant-items : goal.invariant-items
invariant-items g l = ListedOn g.T.Form l.fn.self l.self l.items.items

abbrev pub decreases-items : goal.decreases-items
decreases-items g l = length (octets_to_come l.self)

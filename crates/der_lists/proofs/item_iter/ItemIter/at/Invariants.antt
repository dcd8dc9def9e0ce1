use Rattle.der_lists.proofs.RereadItems.{SkippedOn}
use Rattle.der_lists.proofs.item_iter.ItemIter.at.Given as goal

abbrev pub invariant-skipped : goal.invariant-skipped
invariant-skipped g l = SkippedOn g.T.Form l.fn.self l.self l._i

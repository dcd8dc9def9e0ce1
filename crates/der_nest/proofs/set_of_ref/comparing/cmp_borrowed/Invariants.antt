use Rattle.std.proofs.Common.{length}
use Rattle.der_nest.specs.BorrowedSets.{encodings_of}
use Rattle.der_nest.proofs.BorrowedOrder.{ComparedSoFar}
use Rattle.der_nest.proofs.set_of_ref.comparing.cmp_borrowed.Given as goal

abbrev pub invariant-items : goal.invariant-items
invariant-items g l = ComparedSoFar g.T.Form l.fn.items l.fn.others l.items l.others

abbrev pub decreases-items : goal.decreases-items
decreases-items g l = length (encodings_of g.T.Form.encoding l.items)

use Rattle.std.proofs.Common.{length}
use Rattle.der_nest.specs.BorrowedSets.{OfOctets}
use Rattle.der_nest.specs.BorrowedSequences.{item_encodings}
use Rattle.der_nest.proofs.BorrowedOwning.{OwnedSoFar}
use Rattle.der_nest.proofs.sequence_of_ref.SequenceOfRef.ref_to_owned.Given as goal

abbrev pub invariant-items : goal.invariant-items
invariant-items g l = OwnedSoFar g.T.Form (λ v w. Unit {0}) (OfOctets (item_encodings g.T.Form.parse l.fn.self)) l.items.items (OfOctets l.rest)

abbrev pub decreases-items : goal.decreases-items
decreases-items g l = length l.rest

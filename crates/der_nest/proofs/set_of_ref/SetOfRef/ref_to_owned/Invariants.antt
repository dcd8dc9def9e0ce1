use Rattle.std.proofs.Common.{length}
use Rattle.der_nest.specs.BorrowedSets.{encodings_of}
use Rattle.der_nest.proofs.BorrowedOwning.{OwnedSoFar}
use Rattle.der_nest.proofs.set_of_ref.SetOfRef.ref_to_owned.Given as goal

abbrev pub invariant-items : goal.invariant-items
invariant-items g l = OwnedSoFar g.T.Form g.T.Duplicate.is_copy l.fn.self l.items.items l.rest

abbrev pub decreases-items : goal.decreases-items
decreases-items g l = length (encodings_of g.T.Form.encoding l.rest)

use Rattle.std.proofs.Common.{length}
use Rattle.der_tlv.specs.ReaderState.{rest}
use Rattle.der_tlv.specs.Views.{slice_reader_state}
use Rattle.der_nest.proofs.CountedReading.{CountedSoFar}
use Rattle.der_nest.proofs.sequence_of_ref.keep_items.Given as goal

abbrev pub invariant-items : goal.invariant-items
invariant-items g l = CountedSoFar g.T.Form l.fn.octets (slice_reader_state l.reader) l.count

abbrev pub decreases-items : goal.decreases-items
decreases-items g l = length (rest (slice_reader_state l.reader))

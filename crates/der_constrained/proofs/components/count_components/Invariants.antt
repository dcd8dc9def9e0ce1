use Rattle.std.proofs.Common.{length}
use Rattle.der_tlv.specs.ReaderState.{rest}
use Rattle.der_tlv.specs.Views.{slice_reader_state}
use Rattle.der_constrained.proofs.Counting.{CountedTo}
use Rattle.der_constrained.proofs.components.count_components.Given as goal

abbrev pub invariant-components : goal.invariant-components
invariant-components l = CountedTo l.octets (slice_reader_state l.reader) l.count

abbrev pub decreases-components : goal.decreases-components
decreases-components l = length (rest (slice_reader_state l.reader))

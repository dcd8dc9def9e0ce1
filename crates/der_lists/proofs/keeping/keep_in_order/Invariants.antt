use Rattle.std.proofs.Common.{length}
use Rattle.der_tlv.specs.ReaderState.{rest}
use Rattle.der_tlv.specs.Views.{slice_reader_state}
use Rattle.der_lists.proofs.InOrderReading.{InOrderFrom}
use Rattle.der_lists.proofs.keeping.keep_in_order.Given as goal

abbrev pub invariant-items : goal.invariant-items
invariant-items g l = InOrderFrom g.T.Form l.fn.octets (slice_reader_state l.reader) l.before

abbrev pub decreases-items : goal.decreases-items
decreases-items g l = length (rest (slice_reader_state l.reader))

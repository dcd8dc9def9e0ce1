use Rattle.std.proofs.Common.{length}
use Rattle.der_tlv.specs.declared.encoding_rules.EncodingRules.TheVariants.{Der}
use Rattle.der_tlv.specs.Views.{slice_reader_state}
use Rattle.der_nest.specs.ReReading.{encodings_read, encodings_left}
use Rattle.der_nest.proofs.BorrowedWriting.{WrittenSoFar}
use Rattle.der_nest.proofs.set_of_ref.checked_octets.CheckedOctets.encode_items.Given as goal

abbrev pub invariant-items : goal.invariant-items
invariant-items g l =
    WrittenSoFar (encodings_read l.fn.self.count g.T.Form.parse Der 0 l.fn.self.octets.now) (encodings_left l.items.left g.T.Form.parse (slice_reader_state l.items.reader)) (g.W.Writer.state l.fn.writer) (g.W.Writer.state l.writer)

abbrev pub decreases-items : goal.decreases-items
decreases-items g l = length (encodings_left l.items.left g.T.Form.parse (slice_reader_state l.items.reader))

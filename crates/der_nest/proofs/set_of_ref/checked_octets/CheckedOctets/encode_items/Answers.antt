use Rattle.std.proofs.Common.{rules}
use Rattle.der_tlv.specs.Views.{slice_reader_state}
use Rattle.der_nest.specs.ReReading.{encodings_left}
use Rattle.der_nest.proofs.BorrowedWriting.{not_read, not_written}
use Rattle.der_nest.proofs.set_of_ref.checked_octets.CheckedOctets.encode_items.Goals as goal

pub returns-in_err-item : goal.returns-in_err-item
returns-in_err-item g c =
    let told = rw c.in_err-item.was at c.in-Some.ensures in
    let fault = not_read g.T.Form c.items.invariant c.in_err-item.field-0.0 told.0 told.1 in
    search rules

pub returns-in_err-encode : goal.returns-in_err-encode
returns-in_err-encode g c =
    let told = rw c.in_ok-item.was at c.in-Some.ensures in
    let fault = not_written g.T.Form c.items.invariant c.in_ok-item.field-0 (encodings_left c.next.new.self.left g.T.Form.parse (slice_reader_state c.next.new.self.reader)) (g.W.Writer.state c.encode.new.writer) c.in_err-encode.field-0.0 told.1 c.in_err-encode.ensures in
    search rules

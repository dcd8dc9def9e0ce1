-- The states of the readers and writers of this crate, from their fields.
use Rattle.std.specs.Prelude.{◌≡◌, ℕ, ◌-◌, List, length, take, drop, vec_len, vec_capacity, Result, OnOk, OnErr}
use Rattle.std.specs.Borrow.{GName}
use Rattle.der_tlv.specs.declared.error.Error.{Error}
use Rattle.der_tlv.specs.ReaderState.{ReaderState}
use Rattle.der_tlv.specs.BackState.{no_back}
use Rattle.der_tlv.specs.WritingBack.{back_state}
use Rattle.der_tlv.specs.Writing.{WriterState, is_memory, is_overlength, refuses_first_with, room_unless_failed}
use Rattle.der_tlv.specs.declared.reader.slice.SliceReader.{SliceReader}
use Rattle.der_tlv.specs.declared.writer.slice.SliceWriter.{SliceWriter}
use Rattle.der_tlv.specs.declared.writer.back.place.Place.{Place}
use Rattle.der_tlv.specs.declared.writer.back.slice.BackSlice.{BackSlice}
use Rattle.der_tlv.specs.declared.writer.back.vec.BackVec.{BackVec}
use Rattle.der_tlv.specs.declared.writer.vec.VecWriter.{VecWriter}

abbrev pub slice_reader_state : SliceReader → ReaderState
slice_reader_state r =
    record { input = r.bytes.now; position = r.cursor.position; end = r.cursor.end; failed = r.cursor.failed; rules = r.cursor.rules }

abbrev pub slice_writer_state : SliceWriter → WriterState
slice_writer_state w =
    record { taken = take w.position w.bytes.now; start = w.bytes.ref_ptr; failed = w.failed; room = room_unless_failed w.failed (length w.bytes.now - w.position); may_refuse = refuses_first_with is_overlength w.failed; back = no_back }

-- the buffer that it writes to, in its present state
abbrev pub buffer_of : SliceWriter → List ℕ
buffer_of w = w.bytes.now

-- the name of the borrow of that buffer
abbrev pub lender_of : SliceWriter → GName
lender_of w = w.bytes.ghost_name

-- The buffer after a write: it is the same buffer; a refused write leaves all of it unchanged, and any other write leaves the octets
-- after those that were taken unchanged.
pub record LeavesBuffer {A : Type 0} (old new : SliceWriter) (result : Result A Error) : Type 0 where
  pub lender : lender_of new ≡ lender_of old
  pub refused : OnErr result (buffer_of new ≡ buffer_of old)
  pub behind : OnOk result (drop new.position (buffer_of new) ≡ drop new.position (buffer_of old))

abbrev pub vec_writer_state : VecWriter → WriterState
vec_writer_state w =
    record { taken = w.octets.items; start = (0, 0); failed = w.failed; room = room_unless_failed w.failed (vec_capacity w.octets - vec_len w.octets); may_refuse = refuses_first_with is_memory w.failed; back = no_back }

-- the state of a writer with this buffer and this `Place`; `origin` is the address of the first octet of the buffer
abbrev pub place_state : ℕ × ℕ → List ℕ → Place → WriterState
place_state origin octets p = back_state octets origin p.start p.gap p.filled p.failed

abbrev pub back_vec_state : BackVec → WriterState
back_vec_state w = place_state (0, 0) w.octets.items w.place

abbrev pub back_slice_state : BackSlice → WriterState
back_slice_state w = place_state w.bytes.ref_ptr w.bytes.now w.place

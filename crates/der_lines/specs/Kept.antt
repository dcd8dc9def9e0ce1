-- The state of a writer whose buffer is kept.
use Rattle.std.specs.Prelude.{◌-◌, vec_len, vec_capacity}
use Rattle.der_tlv.specs.BackState.{no_back}
use Rattle.der_tlv.specs.Writing.{WriterState, is_memory, refuses_first_with, room_unless_failed}
use Rattle.der_lines.specs.declared.kept_writer.KeptWriter.{KeptWriter}

abbrev pub kept_writer_state : KeptWriter → WriterState
kept_writer_state w =
    record { taken = w.octets.items; start = (0, 0); failed = w.failed; room = room_unless_failed w.failed (vec_capacity w.octets - vec_len w.octets); may_refuse = refuses_first_with is_memory w.failed; back = no_back }

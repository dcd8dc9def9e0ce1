-- The writer to a buffer of the caller.
use Rattle.std.specs.Prelude.{◌-◌, length, take}
use Rattle.der_tlv.specs.BackState.{no_back}
use Rattle.der_tlv.specs.Writing.{WriterState, is_overlength, refuses_first_with, room_unless_failed}
use Rattle.der_c.specs.declared.building.room_writer.RoomWriter.{RoomWriter}

-- its state; in place of an address it has the name of the borrow, which no call changes
abbrev pub room_writer_state : RoomWriter → WriterState
room_writer_state w =
    record { taken = take w.position w.room.now; start = (w.room.ghost_name, 0); failed = w.failed; room = room_unless_failed w.failed (length w.room.now - w.position); may_refuse = refuses_first_with is_overlength w.failed; back = no_back }

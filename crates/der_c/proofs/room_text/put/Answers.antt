use Rattle.std.proofs.Common.{refl, ◌∙◌, sym}
use Rattle.der_c.proofs.RoomTexts.{copied, over_past}
use Rattle.der_c.proofs.room_text.put.Goals as goal
use Rattle.der_c.proofs.room_text.put.Goals.{then-position-room, else-position-room}

pub returns : goal.returns
returns c = elim c.if-position-room.branch [
  | then-position-room w ↦ record { octets_are = w.room-is ∙ copied c.args.text.now c.args.room.now w.copy_from_slice.new.self c.args.position w.min-count.result _ w.if-position-room.true w.min-count.ensures refl w.copy_from_slice.ensures.after; next_is = c.saturating_add.ensures }
  | else-position-room w ↦ record { octets_are = w.room-is ∙ sym (over_past c.args.text.now c.args.room.now c.args.position w.if-position-room.false); next_is = c.saturating_add.ensures }
]

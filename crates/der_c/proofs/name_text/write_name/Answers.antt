use Rattle.std.proofs.Common.{inl, inr, refl, arith}
use Rattle.der_verify.proofs.ShownItems.{all_shown}
use Rattle.der_c.proofs.NameParts.{name_filled, name_too_long}
use Rattle.der_c.proofs.name_text.write_name.Goals as goal

pub returns-then-room-length : goal.returns-then-room-length
returns-then-room-length c = λ text is.
    inr (name_too_long text c.args.room.now is.0 c.joined_length-length.result c.refuse_call.new.fault c.refuse_call.result is.2
    (c.joined_length-length.ensures refl is.0 (all_shown _ _ _ is.0 _ c.args.name.now.items.octets.short (rw c.items.ensures at c.iter.ensures.octets) is.1))
    (omega arith) c.refuse_call.ensures.number c.refuse_call.ensures.written)

pub returns : goal.returns
returns c = λ text is.
    inl (name_filled text c.args.room.now c.write_last_first.new.room c.end_text.new.room is.0 c.joined_length-length.result c.args.fault.now (omega arith) is.2
    (c.joined_length-length.ensures refl is.0 (all_shown _ _ _ is.0 _ c.args.name.now.items.octets.short (rw c.items.ensures at c.iter.ensures.octets) is.1))
    (omega arith)
    (c.write_last_first.ensures refl is.0 (all_shown _ _ _ is.0 _ c.args.name.now.items.octets.short (rw c.items-2.ensures at c.iter-2.ensures.octets) is.1))
    c.end_text.ensures)

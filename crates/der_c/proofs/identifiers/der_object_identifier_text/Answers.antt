use Rattle.std.proofs.Common.{[], length, inl, inr, refl, arith}
use Rattle.der_c.proofs.RoomTexts.{counted_from_0, puts_none, text_ended}
use Rattle.der_c.proofs.identifiers.der_object_identifier_text.Goals as goal

pub unreachable-requires : goal.unreachable-requires
unreachable-requires c = c.in_default-put_dotted.ensures c.in-Some.ensures.text c.in-Some.ensures.has

pub returns-in_default : goal.returns-in_default
returns-in_default c = inr (record {
  none = c.in_default.ensures;
  held = text_ended [] c.args.room.now c.args.room.now c.end_text.new.room 0 (omega arith) (puts_none c.args.room.now 0 (omega arith)) c.end_text.ensures;
  number = refl;
})

pub returns : goal.returns
returns c = let t = c.in-Some-put_dotted.ensures in inl (record {
  text = t.text;
  has = t.has;
  held = text_ended t.text c.args.room.now c.put_dotted-2.new.room c.end_text-2.new.room c.in-Some-put_dotted.length (omega arith) t.put c.end_text-2.ensures;
  length_is = counted_from_0 c.in-Some-put_dotted.length (length t.text) t.put.next_is;
})

use Rattle.std.proofs.Common.{[], ◌∷◌, arith}
use Rattle.std.specs.Fmt.{decimal}
use Rattle.der_c.proofs.RoomTexts.{puts_both}
use Rattle.der_c.proofs.identifiers.put_arc.Goals as goal

pub returns : goal.returns
returns c = puts_both (46 ∷ []) (decimal c.args.arc) c.args.room.now c.put-next.new.room c.put_number.new.room c.args.position c.put-next.result c.put_number.result (omega arith) c.put-next.ensures c.put_number.ensures

use Rattle.std.proofs.Common.{arith}
use Rattle.der_c.proofs.JoinedParts.{put_before}
use Rattle.der_c.proofs.joined_text.put_before.Goals as goal

pub returns : goal.returns
returns g c = λ text shown room within.
    put_before text c.args.room.now c.put_text-next.new.room c.put_unless_first.new.room c.put_text-own.new.room c.args.is_first c.put_text-own.result c.begin_of-begin.result c.args.end c.put_text-next.result c.put_unless_first.result (omega arith) (omega arith)
    (c.put_text-own.ensures text shown) c.begin_of-begin.ensures (c.put_text-next.ensures text shown) c.put_unless_first.ensures room within

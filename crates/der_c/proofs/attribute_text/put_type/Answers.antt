use Rattle.std.proofs.Common.{arith}
use Rattle.der_c.proofs.AttributeParts.{no_type_put, type_put}
use Rattle.der_c.proofs.attribute_text.put_type.Goals as goal

pub returns-in_default : goal.returns-in_default
returns-in_default c = no_type_put c.args.identifier.now c.args.room.now c.args.position (omega arith) c.in_default.ensures

pub returns : goal.returns
returns c = type_put c.args.identifier.now c.args.room.now c.put_dotted-2.new.room c.args.position c.in-Some-put_dotted.next c.in-Some-put_dotted.ensures

use Rattle.der_c.proofs.Tagged.{not_tagged, written_tagged}
use Rattle.der_c.proofs.signed_attributes.fill_set.Goals as goal

pub returns-then-answer-eq0 : goal.returns-then-answer-eq0
returns-then-answer-eq0 c some = written_tagged c.args.own.now c.args.room.now c.fill-answer.new.room c.tag_as_set.new.octets c.fill-answer.new.count c.args.fault.now c.fill-answer.new.fault c.fill-answer.result some c.fill-answer.ensures c.if-answer-eq0.true c.tag_as_set.ensures

pub returns-else-answer-eq0 : goal.returns-else-answer-eq0
returns-else-answer-eq0 c some = not_tagged c.args.own.now c.args.room.now c.fill-answer.new.room c.fill-answer.new.count c.args.fault.now c.fill-answer.new.fault c.fill-answer.result some c.fill-answer.ensures c.if-answer-eq0.false

use Rattle.der_c.proofs.Finds.{none_if_empty, none_if_refused}
use Rattle.der_c.proofs.finding.front_item.Goals as goal

pub returns-then-item-eq0 : goal.returns-then-item-eq0
returns-then-item-eq0 g c = none_if_empty g.T.Form c.args.octets.now c.args.left c.in-Ok.item.0 c.in-Ok.item.1.length c.in-Ok.ensures.ok.read c.if-item-eq0.true

pub returns-in-Err : goal.returns-in-Err
returns-in-Err g c = none_if_refused g.T.Form c.args.octets.now c.args.left c.in-Err._reason c.in-Err.ensures.err

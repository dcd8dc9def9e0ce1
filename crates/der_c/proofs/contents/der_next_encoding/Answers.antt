use Rattle.der_c.proofs.Within.{next_within}
use Rattle.der_c.proofs.contents.der_next_encoding.Goals as goal

pub returns-clause-follows : goal.returns-clause-follows
returns-clause-follows c = next_within c.args.octets.now c.args.last.now c.next_place.result c.within.result c.next_place.ensures c.within.ensures.same

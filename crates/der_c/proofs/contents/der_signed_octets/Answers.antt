use Rattle.der_c.proofs.Within.{first_within}
use Rattle.der_c.proofs.contents.der_signed_octets.Goals as goal

pub returns-clause-first : goal.returns-clause-first
returns-clause-first c = first_within c.args.octets.now c.start_of_contents-start.result c.next_place.result c.within.result c.start_of_contents-start.ensures c.next_place.ensures c.within.ensures.same

use Rattle.der_c.proofs.Within.{contents_within}
use Rattle.der_c.proofs.contents.der_contents.Goals as goal

pub returns-clause-contents : goal.returns-clause-contents
returns-clause-contents c = contents_within c.args.octets.now c.args.place.now c.contents_of.result c.within.result c.contents_of.ensures c.within.ensures.same

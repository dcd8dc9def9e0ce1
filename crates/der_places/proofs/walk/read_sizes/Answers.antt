use Rattle.std.proofs.Common.{subst}
use Rattle.der_places.specs.Walking.{FindsHeader}
use Rattle.der_places.proofs.Headers.{found_sizes, no_sizes}
use Rattle.der_places.proofs.walk.read_sizes.Goals as goal

pub returns-in-Some : goal.returns-in-Some
returns-in-Some c = found_sizes c.args.octets.now c.args.offset c.in-Some.header c.sizes_of.result (subst (FindsHeader c.args.octets.now c.args.offset) c.in-Some.is c.header_at.ensures) c.sizes_of.ensures.header c.sizes_of.ensures.contents

pub returns-in-None : goal.returns-in-None
returns-in-None c = no_sizes c.args.octets.now c.args.offset _ (subst (FindsHeader c.args.octets.now c.args.offset) c.in-None.is c.header_at.ensures)

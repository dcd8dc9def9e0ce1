use Rattle.der_c.proofs.Finds.{StillWanted}
use Rattle.der_c.proofs.finding.find_item.Given as goal

abbrev pub invariant-each : goal.invariant-each
invariant-each g l = StillWanted g.T.Form l.octets (g.P.Wanted.is_wanted l.wanted) l.fn.items l.left

abbrev pub decreases-each : goal.decreases-each
decreases-each g l = l.left.length

use Rattle.std.proofs.Common.{◌≡◌}
use Rattle.der_path.specs.Graphs.{authority}
use Rattle.der_path.proofs.graph.authority.Given as goal

abbrev pub invariant-each : goal.invariant-each
invariant-each l = authority l.left l.edges l.alive.items l.found.items ≡ authority l.depth l.edges l.fn.nodes.items l.fn.known.items

abbrev pub decreases-each : goal.decreases-each
decreases-each l = l.left

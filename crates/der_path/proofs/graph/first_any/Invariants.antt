use Rattle.std.proofs.Common.{◌≡◌, length}
use Rattle.der_path.specs.Graphs.{first_any}
use Rattle.der_path.proofs.graph.first_any.Given as goal

abbrev pub invariant-each : goal.invariant-each
invariant-each l = first_any l.left ≡ first_any l.nodes

abbrev pub decreases-each : goal.decreases-each
decreases-each l = length l.left

use Rattle.std.proofs.Common.{◌≡◌, length}
use Rattle.der_path.specs.Graphs.{add_once}
use Rattle.der_path.proofs.graph.add_once.Given as goal

abbrev pub invariant-each : goal.invariant-each
invariant-each l = add_once l.found.items l.left ≡ add_once l.fn.known.items l.policies

abbrev pub decreases-each : goal.decreases-each
decreases-each l = length l.left

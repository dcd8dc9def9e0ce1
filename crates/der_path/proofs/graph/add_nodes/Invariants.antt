use Rattle.std.proofs.Common.{◌≡◌, length}
use Rattle.der_path.specs.Graphs.{add_nodes}
use Rattle.der_path.proofs.graph.add_nodes.Given as goal

abbrev pub invariant-each : goal.invariant-each
invariant-each l = add_nodes l.nodes l.expected l.may_be_any l.found.items l.left ≡ add_nodes l.nodes l.expected l.may_be_any l.fn.new_nodes.items l.policies

abbrev pub decreases-each : goal.decreases-each
decreases-each l = length l.left

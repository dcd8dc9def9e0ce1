use Rattle.std.proofs.Common.{◌≡◌, length}
use Rattle.der_path.specs.Graphs.{add_edges}
use Rattle.der_path.proofs.graph.add_edges.Given as goal

abbrev pub invariant-each : goal.invariant-each
invariant-each l = add_edges l.nodes l.expected l.depth l.found.items l.left ≡ add_edges l.nodes l.expected l.depth l.fn.edges.items l.new_nodes

abbrev pub decreases-each : goal.decreases-each
decreases-each l = length l.left

use Rattle.std.proofs.Common.{◌≡◌, length}
use Rattle.der_path.specs.Graphs.{add_issuers}
use Rattle.der_path.proofs.graph.add_issuers.Given as goal

abbrev pub invariant-each : goal.invariant-each
invariant-each l = add_issuers l.found.items l.left ≡ add_issuers l.fn.nodes.items l.mappings

abbrev pub decreases-each : goal.decreases-each
decreases-each l = length l.left

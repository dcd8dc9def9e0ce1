use Rattle.std.proofs.Common.{◌≡◌, false, length}
use Rattle.der_simple.specs.Arcs.{are_arcs_after}
use Rattle.der_simple.proofs.relative_oid.are_arcs_alone.Given as goal

-- the octets left are the rest of arcs if and only if all octets are arcs
abbrev pub invariant-octets : goal.invariant-octets
invariant-octets l = are_arcs_after l.has_begun l.left ≡ are_arcs_after false l.octets

abbrev pub decreases-octets : goal.decreases-octets
decreases-octets l = length l.left

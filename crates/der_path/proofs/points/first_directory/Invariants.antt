use Rattle.std.proofs.Common.{◌≡◌, length}
use Rattle.der_path.specs.Points.{first_directory}
use Rattle.der_path.proofs.points.first_directory.Given as goal

abbrev pub invariant-each : goal.invariant-each
invariant-each l = first_directory l.other l.left ≡ first_directory l.other l.names

abbrev pub decreases-each : goal.decreases-each
decreases-each l = length l.left

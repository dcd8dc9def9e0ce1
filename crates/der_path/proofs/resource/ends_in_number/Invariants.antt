use Rattle.std.proofs.Common.{◌≡◌, true, length}
use Rattle.der_path.specs.Resources.{ends_in_number}
use Rattle.der_path.proofs.resource.ends_in_number.Given as goal

abbrev pub invariant-each : goal.invariant-each
invariant-each l = ends_in_number l.so l.left ≡ ends_in_number true l.host

abbrev pub decreases-each : goal.decreases-each
decreases-each l = length l.left

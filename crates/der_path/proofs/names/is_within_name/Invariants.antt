use Rattle.std.proofs.Common.{◌≡◌, length}
use Rattle.der_path.specs.Subtrees.{is_within_name}
use Rattle.der_path.proofs.names.is_within_name.Given as goal

abbrev pub invariant-each : goal.invariant-each
invariant-each l = is_within_name l.left l.right ≡ is_within_name l.base l.name

abbrev pub decreases-each : goal.decreases-each
decreases-each l = length l.left

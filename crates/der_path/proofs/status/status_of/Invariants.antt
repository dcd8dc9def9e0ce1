use Rattle.std.proofs.Common.{◌≡◌, false, length}
use Rattle.der_path.specs.Reasons.{all_reasons}
use Rattle.der_path.specs.Status.{status_of}
use Rattle.der_path.proofs.status.status_of.Given as goal

abbrev pub invariant-each : goal.invariant-each
invariant-each l = status_of l.fn.asked l.known l.left ≡ status_of l.fn.asked (all_reasons false) l.points

abbrev pub decreases-each : goal.decreases-each
decreases-each l = length l.left

use Rattle.std.proofs.Common.{◌≡◌, length}
use Rattle.der_path.specs.Status.{status_at}
use Rattle.der_path.proofs.status.status_at.Given as goal

abbrev pub invariant-each : goal.invariant-each
invariant-each l = status_at l.fn.asked l.fn.point l.known l.left ≡ status_at l.fn.asked l.fn.point l.fn.known l.lists

abbrev pub decreases-each : goal.decreases-each
decreases-each l = length l.left

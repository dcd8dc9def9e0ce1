use Rattle.std.proofs.Common.{◌≡◌, length}
use Rattle.der_path.specs.Deltas.{delta_for}
use Rattle.der_path.proofs.deltas.delta_for.Given as goal

abbrev pub invariant-each : goal.invariant-each
invariant-each l = delta_for l.fn.complete l.moment l.left ≡ delta_for l.fn.complete l.moment l.lists

abbrev pub decreases-each : goal.decreases-each
decreases-each l = length l.left

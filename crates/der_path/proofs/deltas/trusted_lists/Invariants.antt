use Rattle.std.proofs.Common.{length}
use Rattle.der_path.specs.Deltas.{ShowsTrustedList}
use Rattle.der_path.proofs.ShowingEach.{ShownSoFar}
use Rattle.der_path.proofs.deltas.trusted_lists.Given as goal

abbrev pub invariant-each : goal.invariant-each
invariant-each l = ShownSoFar ShowsTrustedList l.lists l.kept.items l.left

abbrev pub decreases-each : goal.decreases-each
decreases-each l = length l.left

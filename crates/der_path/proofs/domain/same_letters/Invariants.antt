use Rattle.std.proofs.Common.{◌≡◌, length}
use Rattle.der_path.specs.Domains.{same_letters}
use Rattle.der_path.proofs.domain.same_letters.Given as goal

abbrev pub invariant-each : goal.invariant-each
invariant-each l = same_letters l.left l.right ≡ same_letters l.first l.second

abbrev pub decreases-each : goal.decreases-each
decreases-each l = length l.left

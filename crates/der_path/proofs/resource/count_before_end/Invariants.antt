use Rattle.std.proofs.Common.{◌≡◌, ◌+◌, length}
use Rattle.std.specs.List.{position_or_len}
use Rattle.der_path.specs.Resources.{ends_authority}
use Rattle.der_path.proofs.resource.count_before_end.Given as goal

abbrev pub invariant-each : goal.invariant-each
invariant-each l = (l.count + position_or_len ends_authority l.left ≡ position_or_len ends_authority l.octets) × (l.count + length l.left ≡ length l.octets)

abbrev pub decreases-each : goal.decreases-each
decreases-each l = length l.left

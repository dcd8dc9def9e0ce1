use Rattle.std.proofs.Common.{◌≡◌, ◌+◌, ◌==◌, length}
use Rattle.std.specs.List.{position_or_len}
use Rattle.der_path.proofs.resource.count_before.Given as goal

abbrev pub invariant-each : goal.invariant-each
invariant-each l = (l.count + position_or_len (λ x. x == l.at) l.left ≡ position_or_len (λ x. x == l.at) l.octets) × (l.count + length l.left ≡ length l.octets)

abbrev pub decreases-each : goal.decreases-each
decreases-each l = length l.left

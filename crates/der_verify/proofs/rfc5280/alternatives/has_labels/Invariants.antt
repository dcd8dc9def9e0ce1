use Rattle.std.proofs.Common.{◌≡◌, ◌+◌, ◌≤◌, false, length}
use Rattle.der_verify.specs.Alternatives.{has_labels}
use Rattle.der_verify.proofs.rfc5280.alternatives.has_labels.Given as goal

abbrev pub invariant-each : goal.invariant-each
invariant-each l = (has_labels l.count l.ends l.left ≡ has_labels 0 false l.octets) × (l.count + length l.left ≤ length l.octets)

abbrev pub decreases-each : goal.decreases-each
decreases-each l = length l.left

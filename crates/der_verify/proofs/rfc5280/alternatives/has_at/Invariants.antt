use Rattle.std.proofs.Common.{◌≡◌, length}
use Rattle.der_verify.specs.Alternatives.{has_at}
use Rattle.der_verify.proofs.rfc5280.alternatives.has_at.Given as goal

abbrev pub invariant-each : goal.invariant-each
invariant-each l = has_at l.left ≡ has_at l.octets

abbrev pub decreases-each : goal.decreases-each
decreases-each l = length l.left

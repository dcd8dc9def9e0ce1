use Rattle.std.proofs.Common.{◌≡◌, ◌==◌, not, length}
use Rattle.std.specs.List.{list_any}
use Rattle.der_verify.proofs.rfc5280.inside.has_one.Given as goal

abbrev pub invariant-each : goal.invariant-each
invariant-each l = list_any (λ x. not (x == 0)) l.left ≡ list_any (λ x. not (x == 0)) l.octets

abbrev pub decreases-each : goal.decreases-each
decreases-each l = length l.left

use Rattle.std.proofs.Common.{◌≡◌, length}
use Rattle.der_verify.specs.Names.{is_visible}
use Rattle.der_verify.proofs.names.are_visible.Given as goal

abbrev pub invariant-each : goal.invariant-each
invariant-each l = is_visible l.left ≡ is_visible l.octets

abbrev pub decreases-each : goal.decreases-each
decreases-each l = length l.left

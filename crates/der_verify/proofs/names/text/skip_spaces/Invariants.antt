use Rattle.std.proofs.Common.{◌≡◌, length}
use Rattle.der_verify.specs.Text.{drop_spaces}
use Rattle.der_verify.proofs.names.text.skip_spaces.Given as goal

abbrev pub invariant-each : goal.invariant-each
invariant-each l = drop_spaces l.left ≡ drop_spaces l.octets

abbrev pub decreases-each : goal.decreases-each
decreases-each l = length l.left

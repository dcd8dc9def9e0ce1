use Rattle.std.proofs.Common.{◌≡◌, length}
use Rattle.std.specs.Cmp.Lexicographic.{pointwise}
use Rattle.der_verify.specs.Text.{same_character, settled}
use Rattle.der_verify.proofs.names.text.same_settled.Given as goal

abbrev pub invariant-each : goal.invariant-each
invariant-each l = pointwise same_character (settled l.left) (settled l.right) ≡ pointwise same_character (settled l.first) (settled l.second)

abbrev pub decreases-each : goal.decreases-each
decreases-each l = length l.left

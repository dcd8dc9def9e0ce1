use Rattle.std.proofs.Common.{◌≡◌, ◌≤◌, ◌+◌, length}
use Rattle.der_verify.specs.Bounds.{character_count}
use Rattle.der_verify.proofs.bounds.character_count.Given as goal

abbrev pub invariant-each : goal.invariant-each
invariant-each l = (l.count + character_count l.left ≡ character_count l.text) × (l.count + length l.left ≤ length l.text)

abbrev pub decreases-each : goal.decreases-each
decreases-each l = length l.left

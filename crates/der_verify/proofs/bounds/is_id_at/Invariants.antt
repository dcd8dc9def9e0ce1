use Rattle.std.proofs.Common.{◌≡◌, length}
use Rattle.der_verify.specs.Bounds.{is_id_at}
use Rattle.der_verify.proofs.bounds.is_id_at.Given as goal

abbrev pub invariant-each : goal.invariant-each
invariant-each l = is_id_at l.left l.type_ ≡ is_id_at l.numbers l.type_

abbrev pub decreases-each : goal.decreases-each
decreases-each l = length l.left

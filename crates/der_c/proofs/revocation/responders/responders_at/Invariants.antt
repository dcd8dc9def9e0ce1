use Rattle.std.proofs.Common.{length}
use Rattle.der_c.specs.OcspStatuses.{responder_at}
use Rattle.der_c.proofs.Mapped.{MappedSoFar}
use Rattle.der_c.proofs.revocation.responders.responders_at.Given as goal

abbrev pub invariant-each : goal.invariant-each
invariant-each l = MappedSoFar responder_at l.responders l.found.items l.left

abbrev pub decreases-each : goal.decreases-each
decreases-each l = length l.left

use Rattle.std.proofs.Common.{length}
use Rattle.der_c.proofs.EachReading.{ReadSoFar}
use Rattle.der_c.proofs.path.there.each_there.Given as goal

abbrev pub invariant-each : goal.invariant-each
invariant-each g l = ReadSoFar g.T.Form l.octets l.places l.found.items l.left

abbrev pub decreases-each : goal.decreases-each
decreases-each g l = length l.left

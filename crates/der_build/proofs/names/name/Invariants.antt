use Rattle.std.proofs.Common.{length}
use Rattle.der_build.proofs.Parts.{MadeSoFar}
use Rattle.der_build.proofs.names.name.Given as goal

abbrev pub invariant-each : goal.invariant-each
invariant-each l = MadeSoFar l.attributes l.left l.parts.items

abbrev pub decreases-each : goal.decreases-each
decreases-each l = length l.left

use Rattle.std.proofs.Common.{length}
use Rattle.der_c.proofs.Flags.{HasBits}
use Rattle.der_c.proofs.bits.number_of_flags.Given as goal

abbrev pub invariant-each : goal.invariant-each
invariant-each l = HasBits l.flags l.left l.bits

abbrev pub decreases-each : goal.decreases-each
decreases-each l = length l.left

use Rattle.std.proofs.Common.{length}
use Rattle.der_lists.specs.ListRef.{octets_of}
use Rattle.der_lists.specs.ReadingOn.{octets_to_come}
use Rattle.der_verify.specs.contracts.shown.MeaningsMeantExtension.TheImpl as extension
use Rattle.der_verify.proofs.Repeats.{StillTwo}
use Rattle.der_verify.proofs.rfc5280.has_repeated_one.Given as goal

abbrev pub invariant-each : goal.invariant-each
invariant-each l = StillTwo extension.ghosts.FORM (octets_of l.fn.extensions) l.left

abbrev pub decreases-each : goal.decreases-each
decreases-each l = length (octets_to_come l.left)

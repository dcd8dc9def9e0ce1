use Rattle.std.proofs.Common.{length}
use Rattle.der_lists.specs.ListRef.{octets_of}
use Rattle.der_lists.specs.ReadingOn.{octets_to_come}
use Rattle.der_verify.specs.contracts.shown.MeaningsMeantExtension.TheImpl as extension
use Rattle.der_verify.proofs.Repeats.{StillRepeats}
use Rattle.der_verify.proofs.rfc5280.repeated.one_repeats.Given as goal

abbrev pub invariant-each : goal.invariant-each
invariant-each l = StillRepeats extension.ghosts.FORM (octets_of l.fn.extensions) l.seen.keys l.left

abbrev pub decreases-each : goal.decreases-each
decreases-each l = length (octets_to_come l.left)

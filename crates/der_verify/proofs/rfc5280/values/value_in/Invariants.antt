use Rattle.std.proofs.Common.{length}
use Rattle.der_lists.specs.ListRef.{octets_of}
use Rattle.der_lists.specs.ReadingOn.{octets_to_come}
use Rattle.der_verify.specs.contracts.shown.MeaningsMeantExtension.TheImpl as extension
use Rattle.der_verify.proofs.FirstValues.{StillValue}
use Rattle.der_verify.proofs.rfc5280.values.value_in.Given as goal

abbrev pub invariant-each : goal.invariant-each
invariant-each l = StillValue extension.ghosts.FORM l.identifier (octets_of l.fn.extensions) l.left

abbrev pub decreases-each : goal.decreases-each
decreases-each l = length (octets_to_come l.left)

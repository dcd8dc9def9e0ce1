use Rattle.std.proofs.Common.{length}
use Rattle.der_path.specs.Chains.{EachRead}
use Rattle.der_path.specs.Keys.{first_key}
use Rattle.der_path.proofs.Chains.{FoundSoFar}
use Rattle.der_path.proofs.keys.verifications_of.Given as goal

abbrev pub invariant-each : goal.invariant-each
invariant-each l = EachRead l.chain l.certificates → FoundSoFar (first_key l.anchor) l.working l.chain l.certificates l.found.items l.left l.behind

abbrev pub decreases-each : goal.decreases-each
decreases-each l = length l.left

use Rattle.std.proofs.Common.{length}
use Rattle.der_path.proofs.PolicyOctets.{SoFar}
use Rattle.der_path.proofs.policy_list.octets_of_policies.Given as goal

abbrev pub invariant-each : goal.invariant-each
invariant-each l = SoFar l.policies l.left l.octets.items

abbrev pub decreases-each : goal.decreases-each
decreases-each l = length l.left

-- Octets that are no list of identifiers.
use Rattle.std.proofs.Common.{inr}
use Rattle.der_path.proofs.policy_list.read_policies.Goals as goal

pub returns-in-Err-clause-err : goal.returns-in-Err-clause-err
returns-in-Err-clause-err c = inr (c.in-Err.ensures.kept, c.in-Err.ensures.long)

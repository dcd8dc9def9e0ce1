-- The inputs of 6.1.
use Rattle.std.proofs.Common.{nat_lt, refl}
use Rattle.der_path.specs.declared.path.Inputs.{Inputs}
use Rattle.der_c.proofs.path.policies_at.Goals as goal

pub returns : goal.returns
returns c =
    let at = c.args.at.now in
    let inputs : Inputs = record {
      moment = at.moment;
      policies = c.deref.result;
      mapping_inhibit = nat_lt 0 at.mapping_inhibit;
      explicit_policy = nat_lt 0 at.explicit_policy;
      any_policy_inhibit = nat_lt 0 at.any_policy_inhibit;
      constraints = c.initial_constraints.result;
    } in
    record {
      inputs = inputs;
      are_inputs = record { moment = refl; policies = c.deref.ensures.value; mapping_inhibit = refl; explicit_policy = refl; any_policy_inhibit = refl; constraints = c.initial_constraints.ensures };
      answers = c.policies_of.ensures;
    }

-- The answer for the facts that were read.
use Rattle.std.proofs.Common.{subst}
use Rattle.der_path.specs.Paths.{answer, Answers}
use Rattle.der_path.proofs.Reading.{answered, passed_on}
use Rattle.der_path.proofs.path.policies_of.Goals as goal

pub returns-in_err-facts : goal.returns-in_err-facts
returns-in_err-facts c = λ lists listed.
    passed_on c.args.anchor.now c.args.chain.now lists c.args.inputs.now c.in_err-facts.field-0.0 c.from_residual.result c.from_residual.ensures.1 (c.in_err-facts.ensures lists listed)

pub returns : goal.returns
returns c = λ lists listed.
    answered c.args.anchor.now c.args.chain.now lists c.args.inputs.now c.in-Ok.parts.items c.in-Ok-initial_names.initial c.in_ok-facts.facts.items c.any_policy.result c.check_facts.result c.in-Ok.ensures c.in-Ok-initial_names.ensures (c.in_ok-facts.ensures lists listed) c.any_policy.ensures
    (subst (λ f. Answers (answer c.any_policy.result c.in-Ok.parts.items c.in-Ok-initial_names.initial f c.args.inputs.now) c.check_facts.result) c.deref-2.ensures.value
    (subst (λ p. Answers (answer c.any_policy.result p c.in-Ok-initial_names.initial c.deref-2.result.now c.args.inputs.now) c.check_facts.result) c.deref.ensures.value c.check_facts.ensures))

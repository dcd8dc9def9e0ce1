-- The answer from each certificate on.
use Rattle.std.proofs.Common.{refl, subst, arith}
use Rattle.der_path.specs.Paths.{seen_state, Answers}
use Rattle.der_path.proofs.Walk.{at_last, goes_on, stopped}
use Rattle.der_path.proofs.path.check_facts.Goals as goal

pub returns-then-others-eq0 : goal.returns-then-others-eq0
returns-then-others-eq0 c =
    subst (λ w. Answers w c.at_index.result)
    (at_last c.args.inputs.now c.args.constraints.now c.args.chain.now c.each.at c.each.issuer.now (seen_state c.each.state) _ c.facts-item.result c.each.left.now _ _ c.each.invariant.answers c.in-len1-up.len_at_least c.facts-item.is refl c.if-others-eq0.true)
    (c.at_index.ensures _ c.last_answer.ensures)

pub returns-in-Err : goal.returns-in-Err
returns-in-Err c =
    stopped c.args.inputs.now c.args.constraints.now c.args.chain.now c.each.at c.each.issuer.now (seen_state c.each.state) _ c.facts-item.result c.each.left.now _ _ c.each.invariant.answers c.in-len1-up.len_at_least c.facts-item.is refl c.if-others-eq0.false c.in-Err.stop c.fault_at.result c.fault_at.ensures c.in-Err.ensures

pub each-preserved : goal.each-preserved
each-preserved c = record {
  answers = goes_on c.args.inputs.now c.args.constraints.now c.args.chain.now c.each.at c.each.issuer.now (seen_state c.each.state) _ c.facts-item.result c.each.left.now _ _ c.each.invariant.answers c.in-len1-up.len_at_least c.facts-item.is refl c.if-others-eq0.false (seen_state c.in-Ok-next_state.next) c.deref-issuer.result.now c.in-Ok-next_state.ensures c.deref-issuer.ensures.value;
  counted = omega arith;
}

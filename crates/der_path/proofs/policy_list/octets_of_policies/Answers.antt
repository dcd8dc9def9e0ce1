-- One policy more.
use Rattle.std.proofs.Common.{refl, arith, ◌∙◌}
use Rattle.std.proofs.lemmas.List.{nil_from_length}
use Rattle.der_path.proofs.PolicyOctets.{all_written, first_left, one_more}
use Rattle.der_path.proofs.policy_list.octets_of_policies.Goals as goal

pub each-preserved : goal.each-preserved
each-preserved c =
    one_more c.args.policies.now c.each.left.now _ _ c.each.octets.items c.deref.result.now c.extend_from_slice.new.self.items c.each.invariant
    (first_left c.each.left.now _ _ _ c.in-len1-up.len_at_least refl refl) (c.deref.ensures.value ∙ c.in_ok-own.ensures) c.in_ok-extend_from_slice.ensures.items

pub returns : goal.returns
returns c = all_written c.args.policies.now c.each.left.now c.each.octets.items c.each.invariant (nil_from_length c.each.left.now (omega arith))

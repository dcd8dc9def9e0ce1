-- The rules that were found so far, and those that are found among the rules left.
use Rattle.std.proofs.Common.{refl, sym, ap, ◌∙◌, ◌++◌}
use Rattle.std.specs.Prelude.{filter}
use Rattle.der_verify.specs.declared.rfc5280.lists.ListRule.{ListRule}
use Rattle.der_verify.specs.Rfc5280Lists.{list_breaks, list_rules}
use Rattle.der_verify.proofs.Steps.{left_out, taken}
use Rattle.der_verify.proofs.rfc5280.lists.check_list.Goals as goal

pub each-init : goal.each-init
each-init c = λ listed entries a b.
    ap (λ l. l ++ filter (λ (r : ListRule). list_breaks r c.args.list.now listed entries) c.as_slice-left.result.now) c.new-found.ensures.items
    ∙ ap (filter (λ (r : ListRule). list_breaks r c.args.list.now listed entries)) c.as_slice-left.ensures

pub each-preserved-in_ok-push : goal.each-preserved-in_ok-push
each-preserved-in_ok-push c = λ listed entries a b.
    taken (λ (r : ListRule). list_breaks r c.args.list.now listed entries) c.each.found.items c.each.left.now list_rules _ _ _ _ (c.each.invariant listed entries a b) c.in-len1-up.len_at_least refl refl (sym (c.in_ok-is_broken_in.ensures listed entries a b) ∙ c.if-branch.true) c.in_ok-push.ensures.items

pub each-preserved : goal.each-preserved
each-preserved c = λ listed entries a b.
    left_out (λ (r : ListRule). list_breaks r c.args.list.now listed entries) c.each.found.items c.each.left.now list_rules _ _ _ (c.each.invariant listed entries a b) c.in-len1-up.len_at_least refl refl (sym (c.in_ok-is_broken_in.ensures listed entries a b) ∙ c.if-branch.false)

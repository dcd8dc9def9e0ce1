use Rattle.std.proofs.Common.{rules, sym, ◌∙◌}
use Rattle.der_elem.specs.Integer.{natural_contents}
use Rattle.der_path.proofs.NumberOrder.{as_long, by_length, is_less, is_not_less}
use Rattle.der_path.proofs.deltas.is_below.Goals as goal

pub returns-in-Less : goal.returns-in-Less
unfolding natural_contents
returns-in-Less c = is_less _ _ (sym (as_long c.args.first.now c.args.second.now c.requires.first c.requires.second (search rules)) ∙ sym c.cmp.ensures ∙ c.in-Less.is)

pub returns-in_default : goal.returns-in_default
unfolding natural_contents
returns-in_default c = is_not_less _ _ (λ e. c.in_default.not-Less (c.cmp.ensures ∙ as_long c.args.first.now c.args.second.now c.requires.first c.requires.second (search rules) ∙ e))

pub returns-else-first-second : goal.returns-else-first-second
unfolding natural_contents
returns-else-first-second c = by_length c.args.first.now c.args.second.now c.requires.first c.requires.second (search rules)

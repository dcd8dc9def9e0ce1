use Rattle.std.proofs.Common.{◌≡◌, ◌++◌, ◌∷◌, [], sym, subst, arith}
use Rattle.std.proofs.lemmas.Grind.{common_steps}
use Rattle.der_lists.proofs.RereadItems.{ListedOn, one_more_listed_on}
use Rattle.der_lists.proofs.item_iter.ItemIter.in_vector.Goals as goal

pub items-preserved : goal.items-preserved
items-preserved g c =
    let told = rw c.in_ok-item.was at c.in-Some.ensures.steps in
    let pushed : c.push.new.self.items ≡ c.items.items.items ++ c.in_ok-item.item ∷ [] = grind (arith, common_steps) in
    subst (ListedOn g.T.Form c.args.self c.next.new.self) (sym pushed) (one_more_listed_on g.T.Form c.args.self c.items.invariant told)

use Rattle.std.proofs.Common.{◌≡◌, ◌++◌, ◌∷◌, [], sym, subst, arith}
use Rattle.std.proofs.lemmas.Grind.{common_steps}
use Rattle.der_nest.proofs.BorrowedOwning.{OwnedSoFar, one_more_owned, all_owned, owned_in_order}
use Rattle.der_nest.proofs.set_of_ref.SetOfRef.ref_to_owned.Goals as goal

pub items-preserved : goal.items-preserved
items-preserved g c =
    let told = rw c.in_ok-item.was at c.in-Some.ensures.steps in
    let pushed : c.push.new.self.items ≡ c.items.items.items ++ c.in_ok-item.item ∷ [] = grind (arith, common_steps) in
    subst (λ items. OwnedSoFar g.T.Form g.T.Duplicate.is_copy c.args.self.now items c.next.new.self) (sym pushed) (one_more_owned g.T.Form g.T.Duplicate.is_copy c.args.self.now c.items.items.items c.items.rest c.in_ok-item.item c.next.new.self c.items.invariant told)

pub of_ordered-requires : goal.of_ordered-requires
of_ordered-requires g c =
    let none = rw c.in_default.is at c.next.ensures.steps in
    let items = all_owned g.T.Form g.T.Duplicate.is_copy c.args.self.now c.items.items.items c.items.rest c.items.invariant none.0 in
    owned_in_order g.T.Form g.T.Duplicate.is_copy g.met.T.Duplicate.copy_encoding c.args.self.now c.items.items.items items c.iter-rest.ensures.in_order

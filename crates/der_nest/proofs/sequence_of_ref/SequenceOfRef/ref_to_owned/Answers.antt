use Rattle.std.proofs.Common.{◌≡◌, ◌++◌, ◌∷◌, [], refl, sym, subst, arith}
use Rattle.std.proofs.lemmas.Grind.{common_steps}
use Rattle.der_nest.specs.BorrowedSets.{OfOctets}
use Rattle.der_nest.specs.BorrowedSequences.{item_encodings}
use Rattle.der_nest.proofs.BorrowedOwning.{OwnedSoFar, one_more_owned}
use Rattle.der_nest.proofs.sequence_of_ref.SequenceOfRef.ref_to_owned.Goals as goal

pub items-preserved : goal.items-preserved
items-preserved g c =
    let F = g.T.Form in
    let all = OfOctets (item_encodings F.parse c.args.self.now) in
    let told = rw c.in_ok-item.was at c.in-Some.ensures.steps in
    let pushed : c.push.new.self.items ≡ c.items.items.items ++ c.in_ok-item.item ∷ [] = grind (arith, common_steps) in
    subst (λ items. OwnedSoFar F (λ v w. Unit {0}) all items (OfOctets c.next.new.self)) (sym pushed) (one_more_owned F (λ v w. Unit {0}) all c.items.items.items (OfOctets c.items.rest) c.in_ok-item.item (OfOctets c.next.new.self) c.items.invariant (c.next.new.self, told.0, told.1, refl))

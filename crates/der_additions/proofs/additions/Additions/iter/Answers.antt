use Rattle.std.proofs.Math.Logic.{∥∥₁_elim}
use Rattle.der_additions.proofs.additions.Additions.iter.Goals as goal

pub returns-clause-items : goal.returns-clause-items
returns-clause-items c = ∥∥₁_elim c.args.self.now.elements (hlevel) (λ are. ∣ c.iter.ensures.items are ∣₁)

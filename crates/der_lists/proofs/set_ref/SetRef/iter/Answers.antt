use Rattle.std.proofs.Common.{subst, sym}
use Rattle.der_lists.specs.ReadingOn.{HasItems}
use Rattle.der_lists.specs.SetRef.{octets_of}
use Rattle.der_lists.proofs.ReadingOnItems.{items_of_new_set}
use Rattle.der_lists.proofs.set_ref.SetRef.iter.Goals as goal

pub returns-clause-items : goal.returns-clause-items
returns-clause-items g c = λ read. subst (HasItems g.T.Form) (sym c.new.ensures) (items_of_new_set g.T.Form (octets_of c.args.self.now) read)

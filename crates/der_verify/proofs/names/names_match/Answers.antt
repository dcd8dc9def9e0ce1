use Rattle.std.proofs.Common.{refl}
use Rattle.der_verify.proofs.ShownItems.{all_shown}
use Rattle.der_verify.proofs.names.names_match.Goals as goal

pub returns : goal.returns
returns c = λ parts others a b.
    c.pairs_pass.ensures refl parts others
    (all_shown _ _ _ parts _ c.args.first.now.items.octets.short (rw c.items.ensures at c.iter.ensures.octets) a)
    (all_shown _ _ _ others _ c.args.second.now.items.octets.short (rw c.items-2.ensures at c.iter-2.ensures.octets) b)

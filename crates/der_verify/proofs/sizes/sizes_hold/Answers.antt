use Rattle.std.proofs.Common.{refl}
use Rattle.der_verify.proofs.ShownItems.{all_shown}
use Rattle.der_verify.proofs.sizes.sizes_hold.Goals as goal

pub returns : goal.returns
returns c = λ parts a. c.all_pass.ensures refl parts (all_shown _ _ _ parts _ c.args.name.now.items.octets.short (rw c.items.ensures at c.iter.ensures.octets) a)

use Rattle.std.proofs.Common.{refl}
use Rattle.der_verify.proofs.ShownItems.{all_themselves}
use Rattle.der_verify.proofs.sizes.PartSizesHoldShownTestRelativeDistinguishedName.passes.Goals as goal

pub returns : goal.returns
returns c = λ shown a. c.all_pass.ensures refl shown (all_themselves _ _ shown _ c.args.item.now.items.list.octets.short (rw c.items.ensures at c.iter.ensures.octets) a)

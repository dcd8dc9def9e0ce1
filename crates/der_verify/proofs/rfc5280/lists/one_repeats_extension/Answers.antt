use Rattle.std.proofs.Common.{refl}
use Rattle.der_verify.proofs.ShownItems.{all_shown}
use Rattle.der_verify.proofs.rfc5280.lists.one_repeats_extension.Goals as goal

pub returns : goal.returns
returns c = λ shown a. c.one_passes.ensures refl shown (all_shown _ _ _ shown _ c.args.entries.now.octets.short c.iter.ensures.octets a)

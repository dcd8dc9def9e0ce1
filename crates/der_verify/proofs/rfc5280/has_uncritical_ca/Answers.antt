use Rattle.std.proofs.Common.{refl}
use Rattle.der_verify.proofs.ShownItems.{all_themselves}
use Rattle.der_verify.proofs.rfc5280.has_uncritical_ca.Goals as goal

pub returns : goal.returns
returns c = λ items a. c.one_passes.ensures refl items (all_themselves _ _ items _ c.args.extensions.now.octets.short c.iter.ensures.octets a)

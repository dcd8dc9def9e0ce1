use Rattle.std.proofs.Common.{refl}
use Rattle.der_verify.proofs.ShownItems.{themselves}
use Rattle.der_verify.proofs.extensions.one_has.Goals as goal

pub returns : goal.returns
returns c = λ items a. c.one_passes.ensures refl items (themselves _ items c.args.extensions a)

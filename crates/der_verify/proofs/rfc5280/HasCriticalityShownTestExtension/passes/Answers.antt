use Rattle.std.proofs.Common.{sym, ◌∙◌}
use Rattle.der_verify.specs.EqualEncodings.{same_extension}
use Rattle.der_verify.proofs.EncodedAlike.{alike_critical}
use Rattle.der_verify.proofs.rfc5280.HasCriticalityShownTestExtension.passes.Goals as goal

pub returns : goal.returns
returns c = λ shown e. c.is_so_critical.ensures ∙ alike_critical c.args.self.now.identifier.now c.args.self.now.critical c.args.item.now shown (same_extension c.args.item.now shown (sym e))

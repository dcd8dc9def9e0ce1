use Rattle.std.proofs.Common.{sym, ◌∙◌}
use Rattle.der_verify.specs.EqualEncodings.{same_extension}
use Rattle.der_verify.proofs.EncodedAlike.{alike_uncritical}
use Rattle.der_verify.proofs.rfc5280.IsUncriticalCaShownTestExtension.passes.Goals as goal

pub returns : goal.returns
returns c = λ shown e. c.is_uncritical.ensures ∙ alike_uncritical c.args.item.now shown (same_extension c.args.item.now shown (sym e))

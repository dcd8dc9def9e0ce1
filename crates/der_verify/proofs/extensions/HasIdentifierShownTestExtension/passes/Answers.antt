use Rattle.std.proofs.Common.{sym, ◌∙◌}
use Rattle.der_verify.specs.EqualEncodings.{same_extension}
use Rattle.der_verify.proofs.EncodedAlike.{alike_identifier}
use Rattle.der_verify.proofs.extensions.HasIdentifierShownTestExtension.passes.Goals as goal

pub returns : goal.returns
returns c = λ shown e. c.has_identifier.ensures ∙ alike_identifier c.args.self.now.identifier.now c.args.item.now shown (same_extension c.args.item.now shown (sym e))

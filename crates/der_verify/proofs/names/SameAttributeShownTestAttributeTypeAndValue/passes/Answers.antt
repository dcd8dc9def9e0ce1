use Rattle.std.proofs.Common.{sym, ◌∙◌}
use Rattle.der_verify.specs.EqualEncodings.{same_fields}
use Rattle.der_verify.proofs.EncodedAlike.{alike_second}
use Rattle.der_verify.proofs.names.SameAttributeShownTestAttributeTypeAndValue.passes.Goals as goal

pub returns : goal.returns
returns c = λ shown e. c.attributes_match.ensures ∙ alike_second c.args.self.now.attribute.now c.args.item.now shown (same_fields c.args.item.now shown (sym e))

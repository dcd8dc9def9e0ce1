use Rattle.std.proofs.Common.{sym, ◌∙◌}
use Rattle.der_verify.specs.EqualEncodings.{same_fields}
use Rattle.der_verify.proofs.EncodedAlike.{alike_size}
use Rattle.der_verify.proofs.sizes.SizeHoldsShownTestAttributeTypeAndValue.passes.Goals as goal

pub returns : goal.returns
returns c = λ shown e. c.size_holds.ensures ∙ alike_size c.args.item.now shown (same_fields c.args.item.now shown (sym e))

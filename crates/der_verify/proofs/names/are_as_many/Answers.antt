use Rattle.std.proofs.Common.{refl, ◌∙◌}
use Rattle.der_verify.specs.contracts.shown.MeaningsMeantAttributeTypeAndValue.TheImpl as attribute
use Rattle.der_verify.proofs.EncodedAlike.{as_long}
use Rattle.der_verify.proofs.ShownItems.{all_themselves}
use Rattle.der_verify.proofs.names.are_as_many.Goals as goal

pub returns : goal.returns
returns c = λ xs ys a b.
    c.pairs_pass.ensures refl xs ys
    (all_themselves attribute.ghosts.FORM _ xs _ c.args.attributes.now.octets.short c.iter.ensures.octets a)
    (all_themselves attribute.ghosts.FORM _ ys _ c.args.others.now.octets.short c.iter-2.ensures.octets b)
    ∙ as_long xs ys

use Rattle.std.proofs.Common.{refl, ◌∙◌}
use Rattle.der_lists.specs.Items.{AreItems}
use Rattle.der_lists.specs.SetRef.{octets_of}
use Rattle.der_lists.proofs.TestedItems.{all_to_come}
use Rattle.der_verify.specs.contracts.shown.MeaningsMeantAttributeTypeAndValue.TheImpl as attribute
use Rattle.der_verify.proofs.EncodedAlike.{beside, each_beside, show_beside}
use Rattle.der_verify.proofs.names.all_match.Goals as goal

pub returns : goal.returns
returns c = λ xs ys a b.
    c.all_pass.ensures refl (beside ys xs) (record {
      items = xs;
      are = all_to_come attribute.ghosts.FORM _ xs _ c.args.attributes.now.octets.short c.iter.ensures.octets a;
      show = show_beside attribute.ghosts.FORM (AreItems attribute.ghosts.FORM (octets_of c.args.others.now)) ys xs b;
    }) ∙ each_beside ys xs

use Rattle.std.proofs.Common.{refl, sym, ◌∙◌}
use Rattle.der_verify.specs.EqualEncodings.{same_fields}
use Rattle.der_verify.proofs.EncodedAlike.{alike_any}
use Rattle.der_verify.proofs.ShownItems.{all_themselves}
use Rattle.der_verify.proofs.names.MatchesOneShownTestAttributeTypeAndValue.passes.Goals as goal

pub returns : goal.returns
returns c = λ shown s.
    c.one_passes.ensures refl shown.1 (all_themselves _ _ shown.1 _ c.args.self.now.others.now.octets.short c.iter.ensures.octets s.1)
    ∙ alike_any c.args.item.now shown.0 shown.1 (same_fields c.args.item.now shown.0 (sym s.0))

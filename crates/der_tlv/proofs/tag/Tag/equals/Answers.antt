use Rattle.std.proofs.Common.{sym, ◌∙◌}
use Rattle.der_tlv.specs.HeaderLaws.{same_identifier-test}
use Rattle.der_tlv.proofs.tag.Tag.equals.Goals as goal

pub returns : goal.returns
returns c =
    same_identifier-test c.is_ok.result c.args.self c.args.other (λ e. c.assert_eq.ensures.ok.0 (sym c.is_ok.ensures.value ∙ e), λ h. c.is_ok.ensures.value ∙ c.assert_eq.ensures.ok.1 h)

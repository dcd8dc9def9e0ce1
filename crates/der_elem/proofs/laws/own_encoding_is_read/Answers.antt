use Rattle.std.proofs.Common.{sym, ◌∙◌, ◌≡◌}
use Rattle.der_tlv.specs.declared.encoding_rules.EncodingRules.TheVariants.{Der}
use Rattle.der_elem.proofs.Alone.{all_of_accepted}
use Rattle.der_elem.proofs.laws.own_encoding_is_read.Goals as goal

pub returns : goal.returns
returns g c v readable fits =
    let accepted = g.T.Form.accepts_encoding Der v readable in
    let parsed = all_of_accepted g.T.Form v (g.T.Form.encoding v) accepted fits in
    record {
      accepted = accepted;
      parsed = parsed;
      equal = λ w a.
          let both = sym (all_of_accepted g.T.Form w (g.T.Form.encoding v) a fits) ∙ parsed in
          let same : g.T.Form.encoding w ≡ g.T.Form.encoding v = cc in
          (g.met.T.EncodingEq.encoding_eq w v (g.T.Form.accepts_comparable Der w v (g.T.Form.encoding v) (g.T.Form.encoding v) a accepted)).1 same;
    }

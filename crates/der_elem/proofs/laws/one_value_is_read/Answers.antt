use Rattle.std.proofs.Common.{sym, ◌∙◌}
use Rattle.der_elem.proofs.Alone.{all_of_accepted}
use Rattle.der_elem.proofs.laws.one_value_is_read.Goals as goal

pub returns : goal.returns
returns g c v w octets a b fits =
    let e = sym (all_of_accepted g.T.Form v octets a fits) ∙ all_of_accepted g.T.Form w octets b fits in
    cc

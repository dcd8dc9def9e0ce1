use Rattle.der_elem.specs.OrderLaws.{lex-items}
use Rattle.der_elem.proofs.laws.first_pair_decides.Goals as goal

pub returns : goal.returns
returns g c = lex-items g.T.Tagged.tag_of g.T.FormValue.value.contents g.T.Form.encoding g.met.T.Tagged.encoding_is

use Rattle.der_elem.specs.Fields.{distinguished}
use Rattle.der_elem.proofs.laws.fields_are_distinguished.Goals as goal

pub returns : goal.returns
returns g c = distinguished g.T.Tagged.tag_of g.T.FormValue.value.contents g.T.Form.encoding g.met.T.Tagged.encoding_is g.U.Form.encoding

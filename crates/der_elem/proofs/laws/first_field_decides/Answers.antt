use Rattle.std.proofs.Common.{ap, ◌∙◌}
use Rattle.std.specs.Ordering.{ordering_then}
use Rattle.der_tlv.specs.Octets.{lex}
use Rattle.der_elem.specs.Fields.{lex-option, lex-first}
use Rattle.der_elem.specs.Options.{encoding_option}
use Rattle.der_elem.proofs.laws.first_field_decides.Goals as goal

pub returns : goal.returns
returns g c v w o q =
    let first = lex-first g.T.Tagged.tag_of g.T.FormValue.value.contents g.T.Form.encoding g.met.T.Tagged.encoding_is v w (encoding_option g.U.Form.encoding o) (encoding_option g.U.Form.encoding q) in
    let second = lex-option g.U.Tagged.tag_of g.U.FormValue.value.contents g.U.Form.encoding g.met.U.Tagged.encoding_is o q in
    first ∙ ap (ordering_then (lex (g.T.Form.encoding v) (g.T.Form.encoding w))) second

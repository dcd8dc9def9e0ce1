use Rattle.std.proofs.Common.{arith}
use Rattle.der_tlv.specs.declared.encoding_rules.EncodingRules.TheVariants.{Der}
use Rattle.der_elem.specs.Accepting.{Fits}
use Rattle.der_elem.proofs.Alone.{all_of_accepted}
use Rattle.der_elem.proofs.laws.encodings_read_back.Goals as goal

pub returns : goal.returns
returns g c v octets a fits =
    let readable = g.T.Form.only_readable Der v octets a in
    let same = g.T.Form.same_length Der v octets a in
    let short : Fits (g.T.Form.encoding v) = omega arith in
    all_of_accepted g.T.Form v (g.T.Form.encoding v) (g.T.Form.accepts_encoding Der v readable) short

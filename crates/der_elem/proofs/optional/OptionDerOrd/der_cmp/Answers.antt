use Rattle.std.proofs.Common.{sym}
use Rattle.der_elem.specs.OrderLaws.{lex-absent-present, lex-present-absent}
use Rattle.der_elem.proofs.optional.OptionDerOrd.der_cmp.Goals as goal

pub returns-in-Some-None : goal.returns-in-Some-None
returns-in-Some-None g c =
    rw (c.in-Some-None.is-0, c.in-Some-None.is-1) (sym (lex-present-absent g.T.Tagged.tag_of g.T.FormValue.value.contents g.T.Form.encoding g.met.T.Tagged.encoding_is c.in-Some-None.field-0-0))

pub returns-in-None-Some : goal.returns-in-None-Some
returns-in-None-Some g c =
    rw (c.in-None-Some.is-0, c.in-None-Some.is-1) (sym (lex-absent-present g.T.Tagged.tag_of g.T.FormValue.value.contents g.T.Form.encoding g.met.T.Tagged.encoding_is c.in-None-Some.field-0-1))

use Rattle.std.proofs.Common.{sym}
use Rattle.der_fields.specs.DefaultLaws.{absent_first, absent_second}
use Rattle.der_fields.proofs.with_default.WithDefaultDerOrd.der_cmp.Goals as goal

pub returns-in-true-false : goal.returns-in-true-false
returns-in-true-false g c =
    absent_first g.T.Tagged.tag_of g.T.FormValue.value.contents g.T.Form.encoding g.met.T.Tagged.encoding_is c.args.self.now.value c.args.other.now.value _ _ (sym c.in-true-false.ensures) (sym c.in-true-false.ensures')

pub returns-in-false-true : goal.returns-in-false-true
returns-in-false-true g c =
    absent_second g.T.Tagged.tag_of g.T.FormValue.value.contents g.T.Form.encoding g.met.T.Tagged.encoding_is c.args.self.now.value c.args.other.now.value _ _ (sym c.in-false-true.ensures) (sym c.in-false-true.ensures')

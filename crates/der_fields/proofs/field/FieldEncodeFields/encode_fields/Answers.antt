use Rattle.std.proofs.Common.{rules, ◌++◌, refl}
use Rattle.der_elem.proofs.Written.{wrote_nothing, fault_within, last_part}
use Rattle.std.proofs.lemmas.Bool.{or_left, or_right}
use Rattle.der_fields.proofs.field.FieldEncodeFields.encode_fields.Goals as goal

pub returns-in_err-encode : goal.returns-in_err-encode
returns-in_err-encode g c =
    let first = g.T.Form.encoding c.args.self.now.first in
    let others = g.Rest.FieldList.list.octets.contents c.args.self.now.rest in
    let fault = fault_within (wrote_nothing (g.W.Writer.state c.args.writer.now)) (first ++ others) first others refl (Unit {0}) (Unit {0}) _ _ (or_left (g.T.Form.re_reads c.args.self.now.first) (g.Rest.FieldList.list.octets.re_reads c.args.self.now.rest)) (g.W.Writer.state c.encode.new.writer) c.in_err-encode.field-0.0 c.in_err-encode.ensures in
    search rules

pub returns : goal.returns
returns g c =
    let first = g.T.Form.encoding c.args.self.now.first in
    let others = g.Rest.FieldList.list.octets.contents c.args.self.now.rest in
    last_part c.in_ok-encode.ensures (first ++ others) others refl _ _ (or_right (g.T.Form.re_reads c.args.self.now.first) (g.Rest.FieldList.list.octets.re_reads c.args.self.now.rest)) (g.W.Writer.state c.encode_fields.new.writer) c.encode_fields.result c.encode_fields.ensures

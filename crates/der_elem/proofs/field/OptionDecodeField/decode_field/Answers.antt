use Rattle.std.proofs.Common.{rules, ◌≡◌}
use Rattle.der_tlv.specs.ReaderState.{rest}
use Rattle.der_elem.specs.FirstTagLaws.{distinguished_present}
use Rattle.der_elem.specs.Decoding.{OtherHeader}
use Rattle.der_elem.proofs.OtherTags.{end_without_tag}
use Rattle.der_elem.proofs.field.OptionDecodeField.decode_field.Goals as goal

pub returns : goal.returns
returns g c =
    let v = c.in_ok-decode.field-0 in
    let old = g.R.Source.state c.args.reader.now in
    let present = g.met.T.Choice.has_first_tag v in
    let told = distinguished_present g.T.Form.tags (g.T.Form.first_tag_of v) present.tag old.position (rest old) present.is_tag in
    search rules

pub returns-in_err-tag : goal.returns-in_err-tag
returns-in_err-tag g c =
    let other : OtherHeader g.T.Form.tags (g.R.Source.state c.args.reader.now) → (g.R.Source.state c.peek.new.reader).end ≡ (g.R.Source.state c.args.reader.now).end = λ o. end_without_tag c.in_err-tag.ensures.head o in
    search rules

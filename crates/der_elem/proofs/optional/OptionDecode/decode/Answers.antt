use Rattle.std.proofs.Common.{rules, ◌≡◌}
use Rattle.der_elem.specs.Decoding.{OtherHeader}
use Rattle.der_elem.proofs.OtherTags.{end_without_tag}
use Rattle.der_elem.proofs.optional.OptionDecode.decode.Goals as goal

pub returns-in_err-tag : goal.returns-in_err-tag
returns-in_err-tag g c =
    let other : OtherHeader g.T.Form.tags (g.R.Source.state c.args.reader.now) → (g.R.Source.state c.peek.new.reader).end ≡ (g.R.Source.state c.args.reader.now).end = λ o. end_without_tag c.in_err-tag.ensures.head o in
    search rules

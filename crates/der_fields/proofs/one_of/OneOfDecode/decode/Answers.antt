use Rattle.std.proofs.Common.{rules, ◌≡◌, ◌∙◌, ◌||◌, sym}
use Rattle.der_elem.specs.Decoding.{OtherHeader}
use Rattle.der_elem.proofs.OtherTags.{end_without_tag}
use Rattle.der_fields.proofs.AlternativeRead.{first_read, other_read}
use Rattle.der_fields.proofs.one_of.OneOfDecode.decode.Goals as goal

pub returns-then-can_decode : goal.returns-then-can_decode
returns-then-can_decode g c =
    let v = c.in_ok-decode.field-0 in
    let present = g.met.A.Choice.has_first_tag v in
    let state = g.R.Source.state in
    let read = first_read g.A.Form g.B.Form (state c.args.reader.now) (state c.peek.new.reader) (state c.decode.new.reader) v c.in_ok-tag.tag present.tag c.in_ok-tag.ensures.head (sym c.can_decode.ensures ∙ c.if-can_decode.true) present.is_tag c.in_ok-decode.ensures in
    record { taken = read.taken; ready = read.ready; parsed = read.parsed; accepted = read.accepted; after = read.after }

pub returns-then-can_decode-2 : goal.returns-then-can_decode-2
returns-then-can_decode-2 g c =
    let w = c.in_ok-decode-2.field-0 in
    let present = g.met.B.Choice.has_first_tag w in
    let state = g.R.Source.state in
    let read = other_read g.A.Form g.B.Form (state c.args.reader.now) (state c.peek.new.reader) (state c.decode-then-can_decode-2.new.reader) w c.in_ok-tag.tag present.tag c.in_ok-tag.ensures.head (sym c.can_decode.ensures ∙ c.if-can_decode.false) (sym c.can_decode-2.ensures ∙ c.if-can_decode-2.true) present.is_tag c.in_ok-decode-2.ensures in
    record { taken = read.taken; ready = read.ready; parsed = read.parsed; accepted = read.accepted; after = read.after }

pub returns-in_err-tag : goal.returns-in_err-tag
returns-in_err-tag g c =
    let other : OtherHeader (λ t. g.A.Form.tags t || g.B.Form.tags t) (g.R.Source.state c.args.reader.now) → (g.R.Source.state c.peek.new.reader).end ≡ (g.R.Source.state c.args.reader.now).end = λ o. end_without_tag c.in_err-tag.ensures.head o in
    search rules

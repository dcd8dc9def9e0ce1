use Rattle.std.proofs.Common.{rules, ◌≡◌, ◌∙◌, ◌+◌, sym, ap, inr, Err, length}
use Rattle.der_tlv.specs.HeaderReading.{octets_of}
use Rattle.der_tlv.specs.ReaderState.{IsReaderState}
use Rattle.der_tlv.specs.Reading.{Refused}
use Rattle.der_tlv.proofs.Refusals.{passed_read, refused_octets, refused_past}
use Rattle.der_elem.proofs.AtContents.{AtHeader, AtContents, refused_at_header, refused_after_header, refused_inside}
use Rattle.der_elem.specs.Decoding.{OtherHeader}
use Rattle.der_elem.proofs.OtherTags.{end_without_header, end_at_header}
use Rattle.der_wrap.specs.ClassTags.{in_class}
use Rattle.der_wrap.proofs.ExplicitDecoding.{no_other_class}
use Rattle.der_wrap.proofs.ExplicitDecoding.{header_fault_explicit, tag_fault_explicit, too_long_explicit, value_fault_explicit, left_over_explicit, taken_all, parsed_explicit, accepted_explicit, after_explicit}
use Rattle.der_wrap.proofs.tagged_value.TaggedValueDecode.decode.Goals as goal
use Rattle.der_wrap.proofs.tagged_value.TaggedValueDecode.decode.Goals.{In_ok-header, In_ok-end}

header_at : (g : _) (c : In_ok-header g) → AtHeader c.in_ok-header.header (g.R.Source.state c.args.reader.now) (g.R.Source.state c.decode.new.reader)
header_at g c = record { head = c.in_ok-header.ensures.head; sound = search rules }

contents_at : (g : _) (c : In_ok-end g) → AtContents c.in_ok-header.header (g.R.Source.state c.args.reader.now) (g.R.Source.state c.decode.new.reader) (g.R.Source.state c.nest.new.self) c.in_ok-end.end
contents_at g c =
    record { at = record { head = c.in_ok-header.ensures.head; sound = search rules }; nest = c.in_ok-end.ensures }

pub returns-in_err-header : goal.returns-in_err-header
returns-in_err-header g c =
    let fault = header_fault_explicit c.in_err-header.ensures.head g.row.CLASS g.T.Form.parse (g.R.Source.state c.args.reader.now).rules in
    let other : OtherHeader (in_class g.row.CLASS) (g.R.Source.state c.args.reader.now) → (g.R.Source.state c.decode.new.reader).end ≡ (g.R.Source.state c.args.reader.now).end = λ o. end_without_header c.in_err-header.ensures.head o in
    search rules

pub returns-in-Err : goal.returns-in-Err
returns-in-Err g c =
    let at = header_at g (goal.at.returns-in-Err g c).In_ok-header in
    let fault = tag_fault_explicit at g.row.CLASS g.T.Form.parse (g.R.Source.state c.args.reader.now).rules c.in-Err.kind c.in-Err.ensures in
    record { reason = inr (fault ∙ ap Err (sym c.error.ensures.kind)); reader = refused_at_header at c.error.ensures.failed; other_tag = λ o. end_at_header at c.error.ensures.failed }

pub returns-in_err-end : goal.returns-in_err-end
returns-in_err-end g c =
    let at = header_at g (goal.at.returns-in_err-end g c).In_ok-header in
    let fault = too_long_explicit at g.row.CLASS g.T.Form.parse (g.R.Source.state c.args.reader.now).rules c.in-Ok.number.0 c.in-Ok.ensures c.in_err-end.ensures in
    let reader = refused_after_header at (refused_octets c.in_err-end.ensures) in
    let other : OtherHeader (in_class g.row.CLASS) (g.R.Source.state c.args.reader.now) → (g.R.Source.state c.nest.new.self).end ≡ (g.R.Source.state c.args.reader.now).end = λ o. no_other_class at g.row.CLASS c.in-Ok.number.0 c.in-Ok.ensures o in
    search rules

pub returns-in_err-value : goal.returns-in_err-value
returns-in_err-value g c =
    let at = contents_at g (goal.at.returns-in_err-value g c).In_ok-end in
    let told = c.in_err-value.ensures in
    let fault = value_fault_explicit g.T.Form at g.row.CLASS c.in-Ok.number.0 c.in-Ok.ensures told in
    let reader = refused_inside at told.reader in
    let other : OtherHeader (in_class g.row.CLASS) (g.R.Source.state c.args.reader.now) → (g.R.Source.state c.decode-2.new.reader).end ≡ (g.R.Source.state c.args.reader.now).end = λ o. no_other_class at.at g.row.CLASS c.in-Ok.number.0 c.in-Ok.ensures o in
    search rules

pub returns-in_err-unnest : goal.returns-in_err-unnest
returns-in_err-unnest g c =
    let at = contents_at g (goal.at.returns-in_err-unnest g c).In_ok-end in
    let sound : IsReaderState (g.R.Source.state c.nest.new.self) = search rules in
    let sound_after : IsReaderState (g.R.Source.state c.decode-2.new.reader) = search rules in
    let fault = left_over_explicit g.T.Form at g.row.CLASS c.in-Ok.number.0 c.in-Ok.ensures c.in_ok-value.ensures sound sound_after c.in_err-unnest.ensures in
    let reader : Refused (g.R.Source.state c.args.reader.now) (g.R.Source.state c.unnest.new.self) c.in_err-unnest.field-0.0.kind = refused_inside at (refused_past (passed_read _ c.in_ok-value.ensures.ready c.in_ok-value.ensures.after) c.in_err-unnest.ensures.after) in
    let other : OtherHeader (in_class g.row.CLASS) (g.R.Source.state c.args.reader.now) → (g.R.Source.state c.unnest.new.self).end ≡ (g.R.Source.state c.args.reader.now).end = λ o. no_other_class at.at g.row.CLASS c.in-Ok.number.0 c.in-Ok.ensures o in
    search rules

pub returns : goal.returns
returns g c =
    let at = contents_at g (goal.at.returns g c).In_ok-end in
    let sound : IsReaderState (g.R.Source.state c.nest.new.self) = search rules in
    let sound_after : IsReaderState (g.R.Source.state c.decode-2.new.reader) = search rules in
    let told = c.in_ok-value.ensures in
    let all = taken_all g.T.Form at g.row.CLASS c.in-Ok.number.0 c.in-Ok.ensures told sound sound_after c.in_ok-unnest.ensures.possible in
    record {
      taken = length (octets_of c.in_ok-header.header) + c.in_ok-header.header.length;
      ready = at.at.head.ready;
      parsed = parsed_explicit g.T.Form at g.row.CLASS c.in-Ok.number.0 c.in-Ok.ensures told sound sound_after all;
      accepted = accepted_explicit g.T.Form at g.row.CLASS c.in-Ok.number.0 c.in-Ok.ensures told sound sound_after all (search rules);
      after = after_explicit g.T.Form at g.row.CLASS c.in-Ok.number.0 c.in-Ok.ensures told sound sound_after all c.in_ok-unnest.ensures;
    }

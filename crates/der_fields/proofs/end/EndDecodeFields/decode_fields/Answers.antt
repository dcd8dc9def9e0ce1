use Rattle.std.proofs.Common.{inr, ap, ◌∙◌}
use Rattle.der_tlv.specs.ReaderState.{after_fault}
use Rattle.der_tlv.proofs.Refusals.{refused_here, ready_not_failed}
use Rattle.der_elem.proofs.ItemReading.{more_left}
use Rattle.der_fields.proofs.FieldReading.{end_left}
use Rattle.der_fields.proofs.end.EndDecodeFields.decode_fields.Goals as goal

pub returns : goal.returns
returns g c =
    let old = g.R.Source.state c.args.reader.now in
    let some = more_left _ _ c.is_finished.ensures c.if-is_finished.false in
    let ready = c.in_ok-check_ready.ensures.0 in
    record {
      reason = inr (end_left old (g.R.Source.state c.check_ready.new.reader) c.error.result.kind c.position-decoded.result c.remaining_len-remaining.result c.is_sound.ensures ready c.in_ok-check_ready.ensures.1 some c.position-decoded.ensures c.remaining_len-remaining.ensures c.error.ensures.kind);
      reader = refused_here (c.error.ensures.failed ∙ ap after_fault c.in_ok-check_ready.ensures.1) (λ h. ready_not_failed ready h);
    }

use Rattle.der_fields.proofs.FieldReading.{both_parsed, both_accepted, all_after}
use Rattle.der_fields.proofs.field.FieldDecodeFields.decode_fields.Goals as goal

pub returns : goal.returns
returns g c =
    let one = c.in_ok-first.ensures in
    let others = c.in_ok-rest.ensures in
    record {
      ready = one.decoded.ready;
      parsed = both_parsed one others;
      accepted = both_accepted one others;
      after = all_after one others c.is_sound.ensures c.is_sound-2.ensures;
    }

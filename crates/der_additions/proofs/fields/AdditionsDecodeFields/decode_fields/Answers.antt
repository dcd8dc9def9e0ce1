use Rattle.std.proofs.Common.{sym}
use Rattle.der_additions.specs.ElementLaws.{fault_alone}
use Rattle.der_additions.proofs.fields.AdditionsDecodeFields.decode_fields.Goals as goal

pub returns-in-Ok : goal.returns-in-Ok
returns-in-Ok g c =
    let read = c.in-Ok.ensures.exact (sym c.shown_len-length.ensures) in
    record {
      ready = read.ready;
      parsed = read.parsed;
      accepted = sym read.accepted.own;
      after = read.after;
    }

pub returns-in-Err : goal.returns-in-Err
returns-in-Err g c =
    let refused = c.in-Err.ensures.exact (sym c.shown_len-length.ensures) in
    record { reason = fault_alone _ _ refused.reason; reader = c.in-Err.ensures.reader }

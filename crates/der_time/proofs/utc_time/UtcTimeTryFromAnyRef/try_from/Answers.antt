use Rattle.std.proofs.Common.{rules, ◌∙◌, arith}
use Rattle.der_time.specs.TimeLaws.{utc_refused}
use Rattle.der_time.proofs.utc_time.UtcTimeTryFromAnyRef.try_from.Goals as goal

pub returns-in-Err : goal.returns-in-Err
returns-in-Err c =
    record {
      fault = search rules;
      nothing = λ allowed w own. utc_refused w.date_time _ _ (omega (arith, w.to_2049)) c.in-Err.ensures (c.value.ensures ∙ own.0);
    }

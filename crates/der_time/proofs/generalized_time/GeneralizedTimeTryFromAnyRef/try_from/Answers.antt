use Rattle.std.proofs.Common.{rules, ◌∙◌}
use Rattle.der_time.specs.TimeLaws.{generalized_refused}
use Rattle.der_time.proofs.generalized_time.GeneralizedTimeTryFromAnyRef.try_from.Goals as goal

pub returns-in-Err : goal.returns-in-Err
returns-in-Err c =
    record {
      fault = search rules;
      nothing = λ allowed w own. generalized_refused w.date_time _ _ c.in-Err.ensures (c.value.ensures ∙ own.0);
    }

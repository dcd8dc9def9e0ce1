use Rattle.std.proofs.Common.{◌∙◌, ap, sym}
use Rattle.der_time.specs.Times.{time_text}
use Rattle.der_time.specs.TimeLaws.{text_injective}
use Rattle.der_time.specs.TimeOrder.{fields_eq_of, same_fields}
use Rattle.der_time.specs.UnixTimeLaws.{same_seconds, seconds_of_fields}
use Rattle.der_time.proofs.laws.equal_times.Goals as goal

pub returns-clause-seconds : goal.returns-clause-seconds
returns-clause-seconds c =
    let one = c.args.one.now in
    let other = c.args.other.now in
    (λ same. seconds_of_fields one other (same_fields one other (sym c.eq.ensures ∙ same)), λ e. c.eq.ensures ∙ fields_eq_of one other (same_seconds one other e))

pub returns-clause-text : goal.returns-clause-text
returns-clause-text c =
    let one = c.args.one.now in
    let other = c.args.other.now in
    (λ same. ap time_text (same_fields one other (sym c.eq.ensures ∙ same)), λ e. c.eq.ensures ∙ fields_eq_of one other (text_injective one other e))

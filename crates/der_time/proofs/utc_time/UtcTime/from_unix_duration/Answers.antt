use Rattle.std.proofs.Common.{◌≡◌, ◌<◌, ◌≤◌, ap, ◌∙◌, subst, inr, ℕ}
use Rattle.der_time.specs.declared.date_time.DateTime.{DateTime}
use Rattle.der_time.specs.UnixTime.{unix_seconds, end_of_2049, whole_seconds}
use Rattle.der_time.specs.UnixTimeLaws.{before_2050, from_2050}
use Rattle.der_time.proofs.utc_time.UtcTime.from_unix_duration.Goals as goal

pub returns-in-Ok-from_date_time : goal.returns-in-Ok-from_date_time
returns-in-Ok-from_date_time c =
    let time = c.in-Ok-from_date_time.time in
    let seconds : unix_seconds time.date_time ≡ whole_seconds c.args.unix_duration =
    ap (λ (t : DateTime). unix_seconds t) c.in-Ok-from_date_time.ensures ∙ c.in-Ok.ensures.0 in
    (seconds, subst (λ (n : ℕ). n < end_of_2049) seconds (before_2050 time.date_time time.to_2049))

pub returns-in-Err-from_date_time : goal.returns-in-Err-from_date_time
returns-in-Err-from_date_time c =
    let late = from_2050 c.in-Ok.date_time c.in-Err-from_date_time.ensures.1 in
    inr (c.in-Err-from_date_time.ensures.0, c.in-Ok.ensures.1, subst (λ (n : ℕ). end_of_2049 ≤ n) c.in-Ok.ensures.0 late)

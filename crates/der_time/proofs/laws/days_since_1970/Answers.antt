use Rattle.std.proofs.Common.{◌≡◌, ℕ, ◌/◌, pos, ap, sym, ◌∙◌, arith}
use Rattle.der_time.specs.UnixTime.{day_number}
use Rattle.der_time.specs.UnixTimeLaws.{days_are, second_of_day_bound}
use Rattle.der_time.proofs.laws.days_since_1970.Goals as goal

pub returns-clause-calendar : goal.returns-clause-calendar
returns-clause-calendar c =
    let day : c.as_secs.result / 86400 ≡ day_number c.args.time.now = omega (arith, c.as_secs.ensures, c.unix_duration.ensures.seconds, second_of_day_bound c.args.time.now) in
    ap (λ (n : ℕ). pos n) day ∙ sym (days_are c.args.time.now)

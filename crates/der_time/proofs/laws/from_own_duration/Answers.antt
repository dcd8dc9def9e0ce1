use Rattle.std.proofs.Common.{◌≡◌, arith}
use Rattle.der_time.specs.UnixTime.{unix_seconds}
use Rattle.der_time.specs.UnixTimeLaws.{same_seconds}
use Rattle.der_time.proofs.laws.from_own_duration.Goals as goal

pub returns-in-Ok : goal.returns-in-Ok
returns-in-Ok c =
    let seconds : unix_seconds c.in-Ok.same ≡ unix_seconds c.args.time.now = omega (arith, c.in-Ok.ensures.0, c.unix_duration.ensures.seconds) in
    same_seconds c.in-Ok.same c.args.time.now seconds

pub returns-in-Err : goal.returns-in-Err
returns-in-Err c = absurd (omega (arith, c.in-Err.ensures.1, c.unix_duration.ensures.seconds, c.unix_duration.ensures.bounded))

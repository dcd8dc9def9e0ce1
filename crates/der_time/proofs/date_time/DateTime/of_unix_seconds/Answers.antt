use Rattle.std.proofs.Common.{◌≡◌, ◌/◌, ◌%◌, ◌∙◌, arith, w64}
use Rattle.std.proofs.lemmas.Int.{to_z_pos}
use Rattle.der_time.specs.UnixTime.{second_of_day}
use Rattle.der_time.specs.UnixTimeLaws.{seconds_on}
use Rattle.der_time.proofs.date_time.DateTime.of_unix_seconds.Goals as goal

pub returns : goal.returns
returns c =
    let seconds = c.args.seconds in
    let clock : second_of_day c.at.result ≡ seconds % 86400 = c.at.ensures.second ∙ omega arith in
    let day = c.in-Ok.ensures.value ∙ to_z_pos w64 (seconds / 86400) (omega arith) in
    seconds_on c.in-Ok.date c.at.result (seconds / 86400) (seconds % 86400) c.at.ensures.date day clock ∙ omega arith

use Rattle.std.proofs.Common.{◌∙◌}
use Rattle.der_simple.specs.FractionalTimeLaws.{recognised_time, time_of_recognised}
use Rattle.der_simple.proofs.laws.octets_of_times.Goals as goal

pub returns : goal.returns
returns c =
    let found = c.is_fractional_time-found.ensures in
    (λ e. time_of_recognised c.args.octets.now e (found.second (found.value ∙ e)), λ h. recognised_time c.args.octets.now h)

use Rattle.std.proofs.Common.{◌≡◌, sym, ap, ◌∙◌}
use Rattle.der_time.specs.Times.{generalized_contents}
use Rattle.der_time.specs.DateTime.{time_contents}
use Rattle.der_time.specs.TimeLaws.{generalized_at}
use Rattle.der_time.proofs.date_time.DateTime.of_contents.Goals as goal

pub returns-in-Some-to_date_time : goal.returns-in-Some-to_date_time
returns-in-Some-to_date_time c =
    let same : time_contents c.in-Some-to_date_time.time ≡ c.args.octets.now =
    ap generalized_contents c.in-Some-to_date_time.ensures ∙ sym c.in-Some.ensures.digits in
    (same, generalized_at c.in-Some-to_date_time.time c.args.octets.now same)

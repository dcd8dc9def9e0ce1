use Rattle.std.proofs.Common.{◌≡◌, ◌<◌, sym, ap, ◌∙◌, arith}
use Rattle.der_time.specs.declared.fields.Fields.{Fields}
use Rattle.der_time.specs.Times.{utc_contents}
use Rattle.der_time.specs.DateTime.{fields_of}
use Rattle.der_time.specs.TimeLaws.{utc_at}
use Rattle.der_time.proofs.utc_time.UtcTime.of_contents.Goals as goal

pub returns-in-Some-to_date_time : goal.returns-in-Some-to_date_time
returns-in-Some-to_date_time c =
    let time = c.in-Some-to_date_time.date_time in
    let same : utc_contents (fields_of time) ≡ c.args.octets.now =
    ap utc_contents c.in-Some-to_date_time.ensures ∙ sym c.in-Some.ensures.digits in
    let year : time.year ≡ c.in-Some.fields.year = ap (λ (f : Fields). f.year) c.in-Some-to_date_time.ensures in
    let most : time.year < 2050 = omega (arith, year, c.in-Some.ensures.year) in
    (same, utc_at time c.args.octets.now most same)

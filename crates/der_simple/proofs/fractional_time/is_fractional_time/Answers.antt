use Rattle.std.proofs.Common.{◌∙◌, sym, arith}
use Rattle.der_simple.specs.FractionalTimeLaws.{not_long, not_z, no_second, rest_decides}
use Rattle.der_simple.proofs.fractional_time.is_fractional_time.Goals as goal

pub returns-then-octets-lt15-clause-value : goal.returns-then-octets-lt15-clause-value
returns-then-octets-lt15-clause-value c = sym (not_long c.args.octets.now c.if-octets-lt15.true)

pub returns-then-octets-ne90-clause-value : goal.returns-then-octets-ne90-clause-value
returns-then-octets-ne90-clause-value c = sym (not_z c.args.octets.now c.if-octets-ne90.true)

pub returns-in-Some-clause-value : goal.returns-in-Some-clause-value
returns-in-Some-clause-value c =
    c.is_after_stop.ensures ∙ sym (rest_decides c.in-Some.field-0 c.args.octets.now (omega arith) c.if-octets-ne90.false c.in-Some.ensures)

pub returns-in-None-clause-value : goal.returns-in-None-clause-value
returns-in-None-clause-value c = sym (no_second c.args.octets.now c.in-None.ensures)

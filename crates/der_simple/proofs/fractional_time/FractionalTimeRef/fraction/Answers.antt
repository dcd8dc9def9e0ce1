use Rattle.std.proofs.Common.{◌<◌, length, arith, rules}
use Rattle.der_simple.specs.FractionalTimeLaws.{is_long, digits_are}
use Rattle.der_simple.proofs.fractional_time.FractionalTimeRef.fraction.Goals as goal

pub overflow_sub-end : goal.overflow_sub-end
overflow_sub-end c = omega (arith, is_long c.args.self.octets.now c.args.self.time)

pub slice_bounds-rest-count : goal.slice_bounds-rest-count
slice_bounds-rest-count c = omega (arith, is_long c.args.self.octets.now c.args.self.time)

pub slice_bounds-rest-start : goal.slice_bounds-rest-start
slice_bounds-rest-start c =
    let long : 14 < length c.args.self.octets.now = is_long c.args.self.octets.now c.args.self.time in search rules

pub returns-in-len1-up-clause-fraction : goal.returns-in-len1-up-clause-fraction
returns-in-len1-up-clause-fraction c = digits_are c.args.self.octets.now c.args.self.time

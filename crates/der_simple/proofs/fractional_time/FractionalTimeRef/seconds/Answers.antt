use Rattle.std.proofs.Common.{◌≡◌, ◌∙◌, sym, true, false, arith}
use Rattle.std.proofs.lemmas.List.{length-take-le}
use Rattle.der_simple.specs.FractionalTimeLaws.{is_long, no_second, put_together}
use Rattle.der_simple.proofs.fractional_time.FractionalTimeRef.seconds.Goals as goal

pub slice_bounds-second_of-end : goal.slice_bounds-second_of-end
slice_bounds-second_of-end c =
    sym (length-take-le 14 c.args.self.octets.now (omega (arith, is_long c.args.self.octets.now c.args.self.time)))

pub second_of-requires : goal.second_of-requires
second_of-requires c =
    length-take-le 14 c.args.self.octets.now (omega (arith, is_long c.args.self.octets.now c.args.self.time))

pub unreachable-requires : goal.unreachable-requires
unreachable-requires c =
    let no : true ≡ false = sym c.args.self.time ∙ no_second c.args.self.octets.now c.in-None.ensures in cc

pub returns : goal.returns
returns c = put_together c.in-Some.second c.args.self.octets.now c.args.self.time c.in-Some.ensures

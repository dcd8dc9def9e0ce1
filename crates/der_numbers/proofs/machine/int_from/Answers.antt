use Rattle.std.proofs.Common.{◌≡◌, ◌≤◌, length, ap, arith, to_z-of_z}
use Rattle.std.proofs.lemmas.Grind.{common_steps}
use Rattle.der_elem.specs.Integer.{integer_contents}
use Rattle.der_elem.specs.IntegerLaws.{integer_contents-some, integer_contents-length_le_width}
use Rattle.der_numbers.specs.AnyLengthLaws.{integer_contents-own}
use Rattle.der_numbers.proofs.machine.int_from.Goals as goal

pub contents_in-octets-requires-clause-short : goal.contents_in-octets-requires-clause-short
contents_in-octets-requires-clause-short c =
    omega (arith, ap (λ z. length (integer_contents z)) (to_z-of_z c.ranges.number), integer_contents-length_le_width 16 c.args.number (omega arith) c.ranges.number.sfits)

pub invariant_of-result : goal.invariant_of-result
invariant_of-result c =
    let octets = c.in-Ok.octets.items in
    let kept : octets ≡ integer_contents c.args.number = grind (arith, common_steps, to_z-of_z c.ranges.number) in
    let within : length (integer_contents c.args.number) ≤ 16 = integer_contents-length_le_width 16 c.args.number (omega arith) c.ranges.number.sfits in
    record {
      some = omega (arith, ap length kept, integer_contents-some c.args.number);
      fewest = integer_contents-own c.args.number octets kept;
      short = omega (arith, ap length kept, within);
    }

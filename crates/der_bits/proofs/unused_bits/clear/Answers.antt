use Rattle.std.proofs.Common.{rules, arith}
use Rattle.der_bits.proofs.ClearedBits.{cleared_zero, cleared_bits}
use Rattle.der_bits.specs.EqualBitsLaws.{unused_bound}
use Rattle.der_bits.proofs.unused_bits.clear.Goals as goal

pub returns-in-Some-clause-zero : goal.returns-in-Some-clause-zero
returns-in-Some-clause-zero c =
    let item = c.in-Some.ensures.item in
    let bound = unused_bound c.args.count c.args.octets.now c.requires in
    cleared_zero c.args.octets.now c.args.count c.in-Some.octet.now item.3.0 (search rules) bound.0 (item.4 (omega arith) 0)

pub returns-in-Some-clause-bits : goal.returns-in-Some-clause-bits
returns-in-Some-clause-bits c =
    let item = c.in-Some.ensures.item in
    let bound = unused_bound c.args.count c.args.octets.now c.requires in
    cleared_bits c.args.octets.now c.args.count c.in-Some.octet.now item.3.0 (search rules) bound.0 (item.4 (omega arith) 0)

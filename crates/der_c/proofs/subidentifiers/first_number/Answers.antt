use Rattle.std.proofs.Common.{arith, ◌+◌, ◌*◌}
use Rattle.der_c.proofs.NumberFronts.{begins_with_80, ends_never, number_found, number_goes_on, too_great}
use Rattle.der_c.proofs.subidentifiers.first_number.Goals as goal

pub returns-then-number : goal.returns-then-number
returns-then-number c = too_great c.args.octets.now c.loop-index.index c.loop-index.number c.type_inv.octets c.loop-index.invariant (omega arith)

pub returns-then-octet-lt128 : goal.returns-then-octet-lt128
returns-then-octet-lt128 c = (omega arith, number_found c.args.octets.now c.loop-index.index c.loop-index.number _ c.loop-index.invariant (omega arith) (omega arith) (omega arith))

pub returns-then-number-eq0 : goal.returns-then-number-eq0
returns-then-number-eq0 c = begins_with_80 c.args.octets.now c.loop-index.index c.loop-index.number c.type_inv.octets c.loop-index.invariant (omega arith) (omega arith) (omega arith)

pub loop-index-preserved : goal.loop-index-preserved
loop-index-preserved c = number_goes_on c.args.octets.now c.loop-index.index c.loop-index.number (c.loop-index.number * 128 + c.from.result) c.type_inv.octets c.loop-index.invariant (omega arith) (omega arith) (omega arith) (omega arith)

pub returns : goal.returns
returns c = ends_never c.args.octets.now c.loop-index.index c.loop-index.number (omega arith) c.loop-index.invariant

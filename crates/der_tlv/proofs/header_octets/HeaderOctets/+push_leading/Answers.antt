use Rattle.std.proofs.Common.{rules, ◌/◌, ◌<◌, ap, length, length-append, arith}
use Rattle.der_tlv.specs.TagDigits.{leading_octets}
use Rattle.der_tlv.proofs.TagOctets.{length-leading_octets-step, leading_pushed}
use Rattle.der_tlv.proofs.header_octets.HeaderOctets.+push_leading.Goals as goal

pub push_leading-requires : goal.push_leading-requires
push_leading-requires t c =
    let some : 0 < c.args.number = omega arith in
    let more = length-leading_octets-step c.args.number some in
    (search rules, omega arith)

pub push-requires : goal.push-requires
push-requires t c =
    let some : 0 < c.args.number = omega arith in
    let more = length-leading_octets-step c.args.number some in
    let count = ap length c.push_leading.ensures in
    let parts = length-append c.args.self.now (leading_octets (c.args.number / 128)) in
    omega arith

pub returns-then-number-ne0 : goal.returns-then-number-ne0
returns-then-number-ne0 t c =
    let some : 0 < c.args.number = omega arith in
    leading_pushed c.args.self.now c.push_leading.new.self c.push.new.self c.args.number some c.push_leading.ensures c.push.ensures

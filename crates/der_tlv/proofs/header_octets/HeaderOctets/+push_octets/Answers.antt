use Rattle.std.proofs.Common.{rules, ◌/◌, ◌<◌, ap, length, length-append, arith, lit≤}
use Rattle.std.specs.Int.Digits.{digits_of}
use Rattle.std.proofs.lemmas.Int.Digits.{length-digits_of_step}
use Rattle.der_tlv.proofs.LengthCounts.{digits_pushed}
use Rattle.der_tlv.proofs.header_octets.HeaderOctets.+push_octets.Goals as goal

pub push_octets-requires : goal.push_octets-requires
push_octets-requires t c =
    let some : 0 < c.args.number = omega arith in
    let more = length-digits_of_step 256 c.args.number (lit≤ tt) some in
    (search rules, omega arith)

pub push-requires : goal.push-requires
push-requires t c =
    let some : 0 < c.args.number = omega arith in
    let more = length-digits_of_step 256 c.args.number (lit≤ tt) some in
    let count = ap length c.push_octets.ensures in
    let parts = length-append c.args.self.now (digits_of 256 (c.args.number / 256)) in
    omega arith

pub returns-then-number-ne0 : goal.returns-then-number-ne0
returns-then-number-ne0 t c =
    let some : 0 < c.args.number = omega arith in
    digits_pushed c.args.self.now c.push_octets.new.self c.push.new.self c.args.number some c.push_octets.ensures c.push.ensures

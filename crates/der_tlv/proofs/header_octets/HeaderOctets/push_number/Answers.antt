use Rattle.std.proofs.Common.{ℕ, ◌/◌, ap, length, length-append, arith}
use Rattle.der_tlv.specs.TagDigits.{leading_octets}
use Rattle.der_tlv.proofs.TagOctets.{length-leading_octets, number_pushed}
use Rattle.der_tlv.proofs.header_octets.HeaderOctets.push_number.Goals as goal

pub push_leading-requires : goal.push_leading-requires
push_leading-requires c =
    let few = length-leading_octets c.args.number (omega arith) in
    omega arith

pub push-requires : goal.push-requires
push-requires c =
    let few = length-leading_octets c.args.number (omega arith) in
    let count = ap length c.push_leading.ensures in
    let parts = length-append c.args.self.now (leading_octets (c.args.number / 128)) in
    omega arith

pub returns-clause-octets : goal.returns-clause-octets
returns-clause-octets c = number_pushed c.args.self.now c.push_leading.new.self c.push.new.self c.args.number c.push_leading.ensures c.push.ensures

pub returns-clause-room : goal.returns-clause-room
returns-clause-room c =
    let few = length-leading_octets c.args.number (omega arith) in
    let count = ap length c.push_leading.ensures in
    let parts = length-append c.args.self.now (leading_octets (c.args.number / 128)) in
    let all = ap length c.push.ensures in
    omega (arith, length-append {A = ℕ})

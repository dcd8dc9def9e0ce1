use Rattle.std.proofs.Common.{◌≡◌, ◌+◌, ◌≤◌, length, false, rules, arith}
use Rattle.der_tlv.proofs.Places.{written_more}
use Rattle.der_tlv.proofs.writer.back.place.Place.write.Goals as goal

pub returns-clause-written : goal.returns-clause-written
returns-clause-written c origin =
    let p = c.args.self.now in
    let within = p.gap_within in
    let room : p.filled + length c.args.octets.now ≤ p.gap = omega arith in
    let ready : p.failed ≡ false = search rules in
    rw ready (written_more c.args.buffer.now c.args.octets.now c.copy_from_slice.new.self p.start p.gap p.filled c.copy_from_slice.ensures.after c.requires within room origin)

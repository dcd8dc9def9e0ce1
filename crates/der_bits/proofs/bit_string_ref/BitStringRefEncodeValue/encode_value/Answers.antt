use Rattle.std.proofs.Common.{rules}
use Rattle.der_bits.proofs.ContentsWriting.{first_refused, write_after}
use Rattle.der_bits.proofs.bit_string_ref.BitStringRefEncodeValue.encode_value.Goals as goal

pub returns-in-Err : goal.returns-in-Err
returns-in-Err g c =
    let refused = first_refused c.args.self.now.unused c.args.self.now.octets.now _ _ _ c.in-Err.ensures in
    search rules

pub returns-in-Ok : goal.returns-in-Ok
returns-in-Ok g c =
    write_after c.args.self.now.unused c.args.self.now.octets.now _ _ _ c.write.result c.in-Ok.ensures c.write.ensures

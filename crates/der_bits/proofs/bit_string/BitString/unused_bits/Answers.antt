use Rattle.der_bits.specs.EqualBitsLaws.{unused_bound}
use Rattle.der_bits.proofs.bit_string.BitString.unused_bits.Goals as goal

pub returns-clause-bounded : goal.returns-clause-bounded
returns-clause-bounded c =
    let string = c.args.self.now in
    (unused_bound string.unused string.octets.items string.possible).0

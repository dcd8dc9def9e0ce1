use Rattle.der_c.proofs.Made.{builds_made}
use Rattle.der_c.proofs.building.values.der_write_named_bits.Goals as goal

pub returns : goal.returns
returns c = builds_made _ _ _ _ _ _ _ _ _ _ _ c.named_bits_of.ensures.ok c.named_bits_of.ensures.err c.write_made.ensures

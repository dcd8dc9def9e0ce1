use Rattle.der_c.proofs.Made.{builds_made}
use Rattle.der_c.proofs.building.values.der_write_bit_string.Goals as goal

pub returns : goal.returns
returns c = builds_made _ _ _ _ _ _ _ _ _ _ _ c.bits_of.ensures.ok c.bits_of.ensures.err c.write_made.ensures

use Rattle.der_c.proofs.Made.{builds_made}
use Rattle.der_c.proofs.building.keys.der_write_p256_key.Goals as goal

pub returns : goal.returns
returns c = builds_made _ _ _ _ _ _ _ _ _ _ _ c.p256_of.ensures.ok c.p256_of.ensures.err c.write_made.ensures

use Rattle.der_c.proofs.Made.{builds_made}
use Rattle.der_c.proofs.building.keys.der_write_rsa_key.Goals as goal

pub returns : goal.returns
returns c = builds_made _ _ _ _ _ _ _ _ _ _ _ c.rsa_of.ensures.ok c.rsa_of.ensures.err c.write_made.ensures

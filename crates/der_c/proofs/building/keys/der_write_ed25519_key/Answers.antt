use Rattle.der_c.proofs.Made.{builds_made}
use Rattle.der_c.proofs.building.keys.der_write_ed25519_key.Goals as goal

pub returns : goal.returns
returns c = builds_made _ _ _ _ _ _ _ _ _ _ _ c.ed25519_of.ensures.ok c.ed25519_of.ensures.err c.write_made.ensures

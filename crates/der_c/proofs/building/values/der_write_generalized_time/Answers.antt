use Rattle.der_c.proofs.Made.{builds_made}
use Rattle.der_c.proofs.building.values.der_write_generalized_time.Goals as goal

pub returns : goal.returns
returns c = builds_made _ _ _ _ _ _ _ _ _ _ _ c.general_of.ensures.ok c.general_of.ensures.err c.write_made.ensures

use Rattle.der_c.proofs.Made.{builds_made}
use Rattle.der_c.proofs.building.keys.der_write_name_attribute.Goals as goal

pub returns : goal.returns
returns c = builds_made _ _ _ _ _ _ _ _ _ _ _ c.attribute_of.ensures.ok c.attribute_of.ensures.err c.write_made.ensures

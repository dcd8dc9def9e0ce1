use Rattle.der_elem.specs.IntegerLaws.{twos_complement_integer_contents, integer_contents-shortest}
use Rattle.der_elem.proofs.laws.integers_are_fewest.Goals as goal

pub returns : goal.returns
returns c z = (twos_complement_integer_contents z, integer_contents-shortest z)

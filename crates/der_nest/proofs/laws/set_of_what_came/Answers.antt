use Rattle.std.proofs.Common.{[]}
use Rattle.der_nest.specs.StableLaws.{set_of_placed_all, set_of_placed, set_of_last, set_of_more, one_set, set_encoded, set_octets}
use Rattle.der_nest.proofs.laws.set_of_what_came.Goals as goal

pub returns-clause-none : goal.returns-clause-none
returns-clause-none g c = set_of_placed_all g.T.Form.encoding []

pub returns-clause-inserted : goal.returns-clause-inserted
returns-clause-inserted g c = set_of_placed g.T.Form.encoding

pub returns-clause-ordered : goal.returns-clause-ordered
returns-clause-ordered g c = set_of_last g.T.Form.encoding

pub returns-clause-extended : goal.returns-clause-extended
returns-clause-extended g c = set_of_more g.T.Form.encoding

pub returns-clause-one : goal.returns-clause-one
returns-clause-one g c = one_set g.T.Form.encoding

pub returns-clause-encoded : goal.returns-clause-encoded
returns-clause-encoded g c = set_encoded g.T.Form.encoding

pub returns-clause-octets : goal.returns-clause-octets
returns-clause-octets g c = set_octets g.T.Form.encoding

use Rattle.der_nest.specs.UniqueLaws.{sort_encodings-only}
use Rattle.der_nest.proofs.laws.sorted_is_one_list.Goals as goal

pub returns-clause-only : goal.returns-clause-only
returns-clause-only c = sort_encodings-only

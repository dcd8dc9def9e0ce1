use Rattle.layer_tests.specs.Filter.{few_held}
use Rattle.layer_tests.proofs.filter.FilterRecursive.read_held.Goals as goal

pub returns-in-Ok : goal.returns-in-Ok
returns-in-Ok c = record { value = c.in-Ok.filter; decoded = c.in-Ok.ensures; lends = c.held.ensures; few = few_held c.in-Ok.filter }

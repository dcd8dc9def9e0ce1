use Rattle.std.proofs.Common.{arith}
use Rattle.layer_tests.proofs.tree.TreeRecursive.read_held.Goals as goal

pub returns-in-Ok : goal.returns-in-Ok
returns-in-Ok c = record { value = c.in-Ok.tree; decoded = c.in-Ok.ensures; lends = c.held.ensures; few = omega arith }

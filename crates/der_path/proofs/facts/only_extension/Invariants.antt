use Rattle.std.proofs.Common.{◌≡◌, length}
use Rattle.der_path.specs.Extensions.{only_extension}
use Rattle.der_path.proofs.facts.only_extension.Given as goal

abbrev pub invariant-each : goal.invariant-each
invariant-each l = only_extension l.identifier l.left ≡ only_extension l.identifier l.extensions

abbrev pub decreases-each : goal.decreases-each
decreases-each l = length l.left

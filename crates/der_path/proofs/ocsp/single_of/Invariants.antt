use Rattle.std.proofs.Common.{◌≡◌, length}
use Rattle.der_path.specs.Ocsp.{single_of}
use Rattle.der_path.proofs.ocsp.single_of.Given as goal

abbrev pub invariant-each : goal.invariant-each
invariant-each l = single_of l.certificate l.left ≡ single_of l.certificate l.singles

abbrev pub decreases-each : goal.decreases-each
decreases-each l = length l.left

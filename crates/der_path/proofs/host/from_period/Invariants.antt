use Rattle.std.proofs.Common.{◌≡◌, length}
use Rattle.der_path.specs.Hosts.{from_period}
use Rattle.der_path.proofs.host.from_period.Given as goal

abbrev pub invariant-each : goal.invariant-each
invariant-each l = from_period l.left ≡ from_period l.host

abbrev pub decreases-each : goal.decreases-each
decreases-each l = length l.left

use Rattle.std.proofs.Common.{◌≡◌, length}
use Rattle.der_path.specs.Addresses.{is_covered}
use Rattle.der_path.proofs.address.is_covered.Given as goal

abbrev pub invariant-each : goal.invariant-each
invariant-each l = is_covered l.addresses l.masks l.names ≡ is_covered l.address l.mask l.name

abbrev pub decreases-each : goal.decreases-each
decreases-each l = length l.addresses

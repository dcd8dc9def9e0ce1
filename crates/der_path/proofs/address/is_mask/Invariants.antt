use Rattle.std.proofs.Common.{◌≡◌, length}
use Rattle.der_path.specs.Addresses.{is_mask}
use Rattle.der_path.proofs.address.is_mask.Given as goal

abbrev pub invariant-each : goal.invariant-each
invariant-each l = is_mask l.left ≡ is_mask l.octets

abbrev pub decreases-each : goal.decreases-each
decreases-each l = length l.left

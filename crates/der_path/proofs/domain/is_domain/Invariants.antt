use Rattle.std.proofs.Common.{◌≡◌, length}
use Rattle.der_path.specs.Domains.{has_labels, is_domain}
use Rattle.der_path.proofs.domain.is_domain.Given as goal

abbrev pub invariant-each : goal.invariant-each
invariant-each l = has_labels l.begun l.left ≡ is_domain l.octets

abbrev pub decreases-each : goal.decreases-each
decreases-each l = length l.left

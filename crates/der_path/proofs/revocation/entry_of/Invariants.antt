use Rattle.std.proofs.Common.{◌≡◌, length}
use Rattle.der_path.specs.Revocation.{entry_of}
use Rattle.der_path.proofs.revocation.entry_of.Given as goal

abbrev pub invariant-each : goal.invariant-each
invariant-each l = entry_of l.fn.target l.is_of l.left ≡ entry_of l.fn.target l.before l.entries

abbrev pub decreases-each : goal.decreases-each
decreases-each l = length l.left

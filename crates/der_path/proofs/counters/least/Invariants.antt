use Rattle.std.proofs.Common.{◌≡◌, length}
use Rattle.std.specs.Prelude.{min}
use Rattle.std.specs.Int.Digits.{number_from_digits_after}
use Rattle.der_elem.specs.Integer.{big_endian_number}
use Rattle.der_path.proofs.counters.least.Given as goal

abbrev pub invariant-each : goal.invariant-each
invariant-each l = min l.number (number_from_digits_after 256 l.found l.left) ≡ min l.number (big_endian_number l.octets)

abbrev pub decreases-each : goal.decreases-each
decreases-each l = length l.left

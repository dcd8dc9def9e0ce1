use Rattle.std.proofs.Common.{◌≡◌, ◌<◌, length, drop, ◌-◌}
use Rattle.der_elem.specs.Integer.{twos_complement}
use Rattle.der_numbers.proofs.octets.strip_redundant.Given as goal

abbrev pub invariant-loop-start : goal.invariant-loop-start
invariant-loop-start l = record {
  within : l.start < length l.octets;
  same : twos_complement (drop l.start l.octets) ≡ twos_complement l.octets;
}

abbrev pub decreases-loop-start : goal.decreases-loop-start
decreases-loop-start l = length l.octets - l.start

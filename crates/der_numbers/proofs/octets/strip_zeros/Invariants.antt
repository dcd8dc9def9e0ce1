use Rattle.std.proofs.Common.{◌≡◌, ◌<◌, length, drop, ◌-◌}
use Rattle.der_elem.specs.Integer.{big_endian_number}
use Rattle.der_numbers.proofs.octets.strip_zeros.Given as goal

abbrev pub invariant-loop-start : goal.invariant-loop-start
invariant-loop-start l = record {
  within : l.start < length l.octets;
  same : big_endian_number (drop l.start l.octets) ≡ big_endian_number l.octets;
}

abbrev pub decreases-loop-start : goal.decreases-loop-start
decreases-loop-start l = length l.octets - l.start

use Rattle.std.proofs.Common.{◌≢◌, ◌≤◌, ◌-◌, length, All, take}
use Rattle.der_lines.proofs.lines.open_blocks.Given as goal

abbrev pub invariant-loop-end : goal.invariant-loop-end
invariant-loop-end l = record {
  within : l.end ≤ length l.octets;
  before : All (λ octet. octet ≢ 10) (take l.end l.octets);
}

abbrev pub decreases-loop-end : goal.decreases-loop-end
decreases-loop-end l = length l.octets - l.end

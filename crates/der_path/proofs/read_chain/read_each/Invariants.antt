use Rattle.std.proofs.Common.{◌≡◌, ◌+◌, length}
use Rattle.der_path.proofs.Chains.{ReadSoFar}
use Rattle.der_path.proofs.read_chain.read_each.Given as goal

abbrev pub invariant-each : goal.invariant-each
invariant-each l = record {
  read : ReadSoFar l.chain l.found.items l.at l.left;
  counted : l.at + length l.left ≡ length l.chain;
}

abbrev pub decreases-each : goal.decreases-each
decreases-each l = length l.left

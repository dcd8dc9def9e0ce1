use Rattle.std.proofs.Common.{◌≡◌, ◌+◌, length}
use Rattle.der_path.specs.Paths.{answer, answer_from, seen_state}
use Rattle.der_path.proofs.path.check_facts.Given as goal

-- the answer from the certificate at the index on is that for the chain
abbrev pub invariant-each : goal.invariant-each
invariant-each l = record {
  answers : answer_from l.inputs l.constraints l.chain l.at l.issuer (seen_state l.state) l.left ≡ answer l.any l.fn.anchor l.constraints l.chain l.inputs;
  counted : l.at + length l.left ≡ length l.chain;
}

abbrev pub decreases-each : goal.decreases-each
decreases-each l = length l.left

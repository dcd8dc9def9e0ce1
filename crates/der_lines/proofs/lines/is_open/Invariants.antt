use Rattle.std.proofs.Common.{◌≡◌, ◌≢◌, true, All, take}
use Rattle.der_lines.proofs.lines.is_open.Given as goal

abbrev pub invariant-loop-i : goal.invariant-loop-i
invariant-loop-i l = l.is_open ≡ true → All (λ octet. octet ≢ 10) (take l.i l.block)

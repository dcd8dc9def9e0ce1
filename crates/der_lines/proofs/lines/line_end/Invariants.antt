use Rattle.std.proofs.Common.{◌≢◌, All, take}
use Rattle.der_lines.proofs.lines.line_end.Given as goal

abbrev pub invariant-loop-i : goal.invariant-loop-i
invariant-loop-i l = All (λ octet. octet ≢ 10) (take l.i l.octets)

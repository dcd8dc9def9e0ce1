use Rattle.std.proofs.Common.{◌≡◌, IfSome}
use Rattle.der_lines.proofs.Cuts.{Answered}
use Rattle.der_lines.proofs.answering.run.Given as goal

-- all lines that were read were answered, and nothing failed
abbrev pub invariant-lines : goal.invariant-lines
invariant-lines g l = record {
  answered : IfSome (g.R.Read.remaining l.fn.input.reader) (λ text.
      Answered g.N.Names.table l.fn.input.lines_left l.input.lines_left text
      (g.R.Read.remaining l.input.reader) (g.W.Write.contents l.fn.output.writer) (g.W.Write.contents l.output.writer));
  read : l.input.failure ≡ l.fn.input.failure;
  wrote : l.output.failure ≡ l.fn.output.failure;
}

abbrev pub decreases-lines : goal.decreases-lines
decreases-lines g l = l.input.lines_left

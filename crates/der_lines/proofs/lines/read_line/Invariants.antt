use Rattle.std.specs.Io.KnownBytes.{Consumes}
use Rattle.der_lines.specs.Source.{HasNoEnd}
use Rattle.der_lines.proofs.lines.read_line.Given as goal

-- the octets taken so far are in `line`, and are the beginning of a line
abbrev pub invariant-loop : goal.invariant-loop
invariant-loop g l = record {
  taken : Consumes (g.R.Read.remaining l.fn.reader) (g.R.Read.remaining l.reader) l.line.items;
  no_end : HasNoEnd l.line.items;
}

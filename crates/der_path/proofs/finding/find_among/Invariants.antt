use Rattle.std.proofs.Common.{◌≡◌, ◌-◌, ◌≤◌, ◌∷◌, []}
use Rattle.der_path.specs.declared.link.Link.{Link}
use Rattle.der_path.proofs.Searching.{Searched}
use Rattle.der_path.proofs.finding.find_among.Given as goal

-- each chain was looked at, or is longer than one on the stack
abbrev pub invariant-each : goal.invariant-each
invariant-each l = record {
  counted : l.number ≤ l.search.limit;
  searched : (last : Link) → l.fn.end.octets.items ≡ last.octets ∷ [] → l.fn.end.first ≡ last → Searched l.search l.links last l.inputs l.stack.items l.refused;
}

abbrev pub decreases-each : goal.decreases-each
decreases-each l = l.search.limit - l.number

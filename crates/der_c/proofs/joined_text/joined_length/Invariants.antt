use Rattle.std.proofs.Common.{length}
use Rattle.der_lists.specs.ReadingOn.{octets_to_come}
use Rattle.der_c.proofs.JoinedParts.{CountLeft}
use Rattle.der_c.proofs.joined_text.joined_length.Given as goal

abbrev pub invariant-each : goal.invariant-each
invariant-each g l = CountLeft g.T.Form (g.P.ItemText.shows l.texts) l.fn.items l.left l.is_first l.count

abbrev pub decreases-each : goal.decreases-each
decreases-each g l = length (octets_to_come l.left)

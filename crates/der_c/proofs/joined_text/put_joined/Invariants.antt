use Rattle.std.proofs.Common.{length}
use Rattle.der_lists.specs.ReadingOn.{octets_to_come}
use Rattle.der_c.proofs.JoinedParts.{PutLeft}
use Rattle.der_c.proofs.joined_text.put_joined.Given as goal

abbrev pub invariant-each : goal.invariant-each
invariant-each g l = PutLeft g.T.Form (g.P.ItemText.shows l.texts) l.fn.items l.left l.is_first l.fn.room l.position l.room l.next

abbrev pub decreases-each : goal.decreases-each
decreases-each g l = length (octets_to_come l.left)

use Rattle.std.proofs.Common.{◌+◌, ◌-◌, ◌*◌, ◌^◌, length}
use Rattle.der_tlv.specs.ReaderState.{rest}
use Rattle.der_tlv.specs.Views.{slice_reader_state}
use Rattle.der_recursive.proofs.Walking.{WalkedSoFar}
use Rattle.der_recursive.proofs.WalkingHeld.{HeldSoFar}
use Rattle.der_recursive.proofs.depth.+depth.Given as goal

abbrev pub decreases-check_depth : goal.decreases-check_depth
decreases-check_depth g l = 2 * l.depth

abbrev pub decreases-check_next : goal.decreases-check_next
decreases-check_next g l = 2 * l.depth + 1

abbrev pub invariant-check_depth-values : goal.invariant-check_depth-values
invariant-check_depth-values g l = WalkedSoFar g.T.Form g.T.Recursive.held (l.depth - 1) l.octets (slice_reader_state l.reader)

abbrev pub decreases-check_depth-values : goal.decreases-check_depth-values
decreases-check_depth-values g l = length (rest (slice_reader_state l.reader))

abbrev pub invariant-check_next-held : goal.invariant-check_next-held
invariant-check_next-held g l = HeldSoFar g.T.Form g.T.Recursive.held l.depth (slice_reader_state l.fn.reader) (slice_reader_state l.reader) l.index

abbrev pub decreases-check_next-held : goal.decreases-check_next-held
decreases-check_next-held g l = 2 ^ 32 - l.index

use Rattle.std.proofs.Common.{length}
use Rattle.der_tlv.specs.ReaderState.{rest}
use Rattle.der_tlv.specs.Views.{slice_reader_state}
use Rattle.der_path.proofs.KeepingItems.{KeptSoFar}
use Rattle.der_path.proofs.keep.keep_items.Given as goal

abbrev pub invariant-items : goal.invariant-items
invariant-items g l = KeptSoFar g.T.Form g.K.Keeper.shows l.fn.octets (slice_reader_state l.reader) l.kept.items

abbrev pub decreases-items : goal.decreases-items
decreases-items g l = length (rest (slice_reader_state l.reader))

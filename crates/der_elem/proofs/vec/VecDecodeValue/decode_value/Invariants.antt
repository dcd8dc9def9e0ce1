use Rattle.std.proofs.Common.{length}
use Rattle.der_tlv.specs.ReaderState.{rest}
use Rattle.der_elem.proofs.ItemReading.{ItemsSoFar}
use Rattle.der_elem.proofs.vec.VecDecodeValue.decode_value.Given as goal

abbrev pub invariant-items : goal.invariant-items
invariant-items g l = ItemsSoFar g.T.Form (g.R.Source.state l.fn.reader) (g.R.Source.state l.reader) l.items.items

abbrev pub decreases-items : goal.decreases-items
decreases-items g l = length (rest (g.R.Source.state l.reader))

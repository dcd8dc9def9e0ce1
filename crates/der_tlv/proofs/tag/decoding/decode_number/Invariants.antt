use Rattle.std.proofs.Common.{length}
use Rattle.der_tlv.specs.ReaderState.{rest}
use Rattle.der_tlv.proofs.TagNumbers.{NumberSoFar}
use Rattle.der_tlv.proofs.tag.decoding.decode_number.Given as goal

abbrev pub invariant-digits : goal.invariant-digits
invariant-digits g l = NumberSoFar (g.R.Source.state l.fn.reader) (g.R.Source.state l.reader) l.number

abbrev pub decreases-digits : goal.decreases-digits
decreases-digits g l = length (rest (g.R.Source.state l.reader))

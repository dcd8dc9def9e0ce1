use Rattle.der_tlv.proofs.Lengths.{OctetsSoFar}
use Rattle.der_tlv.proofs.length.decode_long.Given as goal

abbrev pub invariant-octets : goal.invariant-octets
invariant-octets g l = OctetsSoFar (g.R.Source.state l.fn.reader) (g.R.Source.state l.reader) l.read l.length

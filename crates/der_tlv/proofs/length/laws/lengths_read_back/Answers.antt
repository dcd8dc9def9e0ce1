use Rattle.der_tlv.specs.LengthLaws.{read_length-octets}
use Rattle.der_tlv.proofs.length.laws.lengths_read_back.Goals as goal

pub returns : goal.returns
returns c = read_length-octets

use Rattle.der_tlv.specs.LengthLaws.{length_octets-unique}
use Rattle.der_tlv.proofs.length.laws.lengths_are_unique.Goals as goal

pub returns : goal.returns
returns c = length_octets-unique

use Rattle.der_tlv.specs.LengthLaws.{length_octets-some, length_octets-few}
use Rattle.der_tlv.proofs.length.laws.lengths_are_short.Goals as goal

pub returns : goal.returns
returns c = λ n h. (length_octets-some n, length_octets-few n h)

use Rattle.der_elem.specs.PaddedLaws.{padded-tlv}
use Rattle.der_elem.proofs.laws.padding_is_lexicographic.Goals as goal

pub returns : goal.returns
returns c = padded-tlv

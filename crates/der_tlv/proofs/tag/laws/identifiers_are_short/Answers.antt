use Rattle.der_tlv.specs.IdentifierLaws.{length-identifier-positive, length-identifier}
use Rattle.der_tlv.proofs.tag.laws.identifiers_are_short.Goals as goal

pub returns : goal.returns
returns c = λ t h. (length-identifier-positive t, length-identifier t h)

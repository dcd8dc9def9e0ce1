use Rattle.der_tlv.specs.IdentifierLaws.{identifier-unique}
use Rattle.der_tlv.proofs.tag.laws.identifiers_are_unique.Goals as goal

pub returns : goal.returns
returns c = identifier-unique

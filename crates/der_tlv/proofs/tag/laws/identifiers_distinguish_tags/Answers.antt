use Rattle.der_tlv.specs.IdentifierLaws.{identifier-injective}
use Rattle.der_tlv.proofs.tag.laws.identifiers_distinguish_tags.Goals as goal

pub returns : goal.returns
returns c = identifier-injective

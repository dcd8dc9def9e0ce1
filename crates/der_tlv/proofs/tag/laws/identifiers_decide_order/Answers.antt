use Rattle.der_tlv.specs.IdentifierLaws.{lex-identifier}
use Rattle.der_tlv.proofs.tag.laws.identifiers_decide_order.Goals as goal

pub returns : goal.returns
returns c = lex-identifier

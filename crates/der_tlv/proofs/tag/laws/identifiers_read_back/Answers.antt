use Rattle.der_tlv.specs.TagReadingLaws.{read_tag-identifier}
use Rattle.der_tlv.proofs.tag.laws.identifiers_read_back.Goals as goal

pub returns : goal.returns
returns c = read_tag-identifier

use Rattle.der_tlv.specs.HeaderLaws.{tlv-unique}
use Rattle.der_elem.proofs.laws.no_encoding_begins_another.Goals as goal

pub returns : goal.returns
returns c = tlv-unique

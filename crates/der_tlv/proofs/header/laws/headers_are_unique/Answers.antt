use Rattle.der_tlv.specs.HeaderLaws.{header_octets-unique}
use Rattle.der_tlv.proofs.header.laws.headers_are_unique.Goals as goal

pub returns : goal.returns
returns c = header_octets-unique

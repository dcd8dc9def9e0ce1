use Rattle.der_tlv.specs.HeaderLaws.{read_header-octets}
use Rattle.der_tlv.proofs.header.laws.headers_read_back.Goals as goal

pub returns : goal.returns
returns c = read_header-octets

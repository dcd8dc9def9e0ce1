use Rattle.der_tlv.proofs.LengthCounts.{long_pushed}
use Rattle.der_tlv.proofs.header_octets.HeaderOctets.push_long_length.Goals as goal

pub returns : goal.returns
returns c =
    long_pushed c.args.self.now c.push.new.self c.push_octets.new.self c.args.contents_len c.octet_count.result c.requires.long c.octet_count.ensures.count c.push.ensures c.push_octets.ensures

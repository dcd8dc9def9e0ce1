use Rattle.std.proofs.Common.{rules}
use Rattle.der_tlv.proofs.LengthCounts.{short_pushed}
use Rattle.der_tlv.proofs.header_octets.HeaderOctets.push_length.Goals as goal

pub returns-then-contents_len-lt128 : goal.returns-then-contents_len-lt128
returns-then-contents_len-lt128 c = let there = short_pushed _ _ _ c.if-contents_len-lt128.true c.push.ensures in search rules

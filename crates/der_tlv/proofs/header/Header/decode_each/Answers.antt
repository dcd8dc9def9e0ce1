use Rattle.std.proofs.Common.{rules}
use Rattle.der_tlv.proofs.Headers.{header_read, header_length_fault, header_tag_fault}
use Rattle.der_tlv.proofs.header.Header.decode_each.Goals as goal

pub returns-in_err-tag-clause-head : goal.returns-in_err-tag-clause-head
returns-in_err-tag-clause-head g c = let there = header_tag_fault c.in_err-tag.ensures.head in search rules

pub returns-in_err-length-clause-head : goal.returns-in_err-length-clause-head
returns-in_err-length-clause-head g c = let there = header_length_fault c.in_ok-tag.ensures.head c.in_err-length.ensures in search rules

pub returns-clause-head : goal.returns-clause-head
returns-clause-head g c = header_read c.in_ok-tag.ensures.head c.in_ok-length.ensures

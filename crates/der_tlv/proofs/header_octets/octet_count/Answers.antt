use Rattle.std.proofs.Common.{rules, sym}
use Rattle.der_tlv.proofs.LengthCounts.{one_octet, two_octets, three_octets, four_octets}
use Rattle.der_tlv.proofs.header_octets.octet_count.Goals as goal

pub returns-in-0-to-255-clause-count : goal.returns-in-0-to-255-clause-count
returns-in-0-to-255-clause-count c = sym (one_octet c.args.number c.requires (search rules))

pub returns-in-256-to-65535-clause-count : goal.returns-in-256-to-65535-clause-count
returns-in-256-to-65535-clause-count c = sym (two_octets c.args.number (search rules) (search rules))

pub returns-in-65536-to-16777215-clause-count : goal.returns-in-65536-to-16777215-clause-count
returns-in-65536-to-16777215-clause-count c = sym (three_octets c.args.number (search rules) (search rules))

pub returns-in_default-clause-count : goal.returns-in_default-clause-count
returns-in_default-clause-count c = sym (four_octets c.args.number (search rules) (search rules))

use Rattle.der_tlv.proofs.header_octets.HeaderOctets.+push_octets.Given as goal

abbrev pub decreases-push_octets : goal.decreases-push_octets
decreases-push_octets l = l.number

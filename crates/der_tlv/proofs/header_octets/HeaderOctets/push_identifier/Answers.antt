use Rattle.std.proofs.Common.{◌≡◌, ◌∙◌, arith}
use Rattle.der_tlv.specs.TagParts.{number_of}
use Rattle.der_tlv.proofs.TagOctets.{identifier_pushed, long_identifier_pushed}
use Rattle.der_tlv.proofs.header_octets.HeaderOctets.push_identifier.Goals as goal

pub returns-then-number-ge31-clause-octets : goal.returns-then-number-ge31-clause-octets
returns-then-number-ge31-clause-octets c =
    let number : c.value-number.result ≡ number_of c.args.tag = c.value-number.ensures ∙ c.number.ensures.value in
    long_identifier_pushed c.args.self.now c.push.new.self c.push_number.new.self c.args.tag c.value-number.result c.first_octet.result number c.if-number-ge31.true c.first_octet.ensures c.push.ensures c.push_number.ensures.octets

pub returns-else-number-ge31-clause-octets : goal.returns-else-number-ge31-clause-octets
returns-else-number-ge31-clause-octets c =
    let number : c.value-number.result ≡ number_of c.args.tag = c.value-number.ensures ∙ c.number.ensures.value in
    identifier_pushed c.args.self.now c.push.new.self c.args.tag c.first_octet.result (omega arith) c.first_octet.ensures c.push.ensures

use Rattle.std.proofs.Common.{◌≡◌, ap, ◌∙◌, arith}
use Rattle.der_tlv.specs.TagParts.{number_of}
use Rattle.der_tlv.specs.HeaderOctets.{header_octets}
use Rattle.der_tlv.proofs.ShortHeaders.{short_header}
use Rattle.der_tlv.proofs.header.Header.two_octets.Goals as goal

pub returns-then-len-lt128-clause-octets : goal.returns-then-len-lt128-clause-octets
returns-then-len-lt128-clause-octets c =
    let number : c.value.result ≡ number_of c.args.self.now.tag = c.value.ensures ∙ c.number.ensures.value in
    short_header c.args.self.now.tag c.value-len.result c.first_octet.result (omega arith) (omega arith) c.first_octet.ensures ∙ ap (header_octets c.args.self.now.tag) c.value-len.ensures.value

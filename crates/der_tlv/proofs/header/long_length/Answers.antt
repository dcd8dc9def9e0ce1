use Rattle.std.proofs.Common.{◌≡◌, ◌+◌, ◌*◌, ◌<◌, ◌≤◌, [], ◌∷◌, sym, ap, ◌∙◌, rules}
use Rattle.der_tlv.specs.LengthOctets.{length_octets}
use Rattle.der_tlv.proofs.LongHeaders.{one_octet, two_octets}
use Rattle.der_tlv.proofs.header.long_length.Goals as goal

pub returns-in-129-clause-octets : goal.returns-in-129-clause-octets
returns-in-129-clause-octets c =
    let long : 128 ≤ c.args.first = search rules in
    let small : c.args.first < 256 = search rules in
    let count : c.args.count ≡ 129 = search rules in
    ap (λ k. k ∷ c.args.first ∷ []) count ∙ one_octet c.args.first c.args.last long small ∙ ap length_octets (sym c.from.ensures)

pub returns-in-130-clause-octets : goal.returns-in-130-clause-octets
returns-in-130-clause-octets c =
    let some : 0 < c.args.first = search rules in
    let small : c.args.first < 256 = search rules in
    let below : c.args.last < 256 = search rules in
    let count : c.args.count ≡ 130 = search rules in
    let is : c.from-in-130.result * 256 + c.from-in-130-2.result ≡ c.args.first * 256 + c.args.last = search rules in
    ap (λ k. k ∷ c.args.first ∷ c.args.last ∷ []) count ∙ two_octets c.args.first c.args.last _ some small below is

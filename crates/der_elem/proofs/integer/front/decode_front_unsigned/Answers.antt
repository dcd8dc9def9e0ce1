use Rattle.std.proofs.Common.{◌≡◌, length, rules, arith, ap, ◌∙◌, take}
use Rattle.std.proofs.lemmas.List.{length-take-le}
use Rattle.der_elem.specs.Integer.{AreOctets, natural_contents}
use Rattle.der_elem.specs.IntegerLaws.{natural_contents-of_octets, number-fits_octets}
use Rattle.der_elem.proofs.IntegerContents.{are_octets, take-are_octets}
use Rattle.der_elem.proofs.integer.front.decode_front_unsigned.Goals as goal

pub returns-clause-contents : goal.returns-clause-contents
returns-clause-contents c = λ needed.
    let octets = take c.args.len c.args.block in
    let all : AreOctets octets = take-are_octets c.args.len c.args.block (are_octets c.args.block (search rules)) in
    let count : length octets ≡ c.args.len = length-take-le c.args.len c.args.block (search rules) in
    ap natural_contents (c.from.ensures ∙ c.front_magnitude.ensures) ∙ natural_contents-of_octets octets all (omega (arith, count, c.requires.some)) c.requires.positive needed

pub returns-clause-fits : goal.returns-clause-fits
returns-clause-fits c =
    let octets = take c.args.len c.args.block in
    let all : AreOctets octets = take-are_octets c.args.len c.args.block (are_octets c.args.block (search rules)) in
    omega (arith, c.from.ensures, c.front_magnitude.ensures, number-fits_octets octets c.args.width all c.requires.within)

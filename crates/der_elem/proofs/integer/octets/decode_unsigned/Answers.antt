use Rattle.std.proofs.Common.{rules, arith, ap, ◌∙◌}
use Rattle.der_elem.specs.Integer.{AreOctets, natural_contents}
use Rattle.der_elem.specs.IntegerLaws.{natural_contents-of_octets, number-fits_octets}
use Rattle.der_elem.proofs.IntegerContents.{are_octets, number-fits_most}
use Rattle.der_elem.proofs.integer.octets.decode_unsigned.Goals as goal

pub magnitude-requires : goal.magnitude-requires
magnitude-requires c =
    let all : AreOctets c.args.bytes.now = are_octets c.args.bytes.now (search rules) in
    number-fits_most c.args.width c.args.bytes.now all c.requires.within c.requires.width

pub returns-clause-contents : goal.returns-clause-contents
returns-clause-contents c = λ needed.
    let all : AreOctets c.args.bytes.now = are_octets c.args.bytes.now (search rules) in
    ap natural_contents c.magnitude.ensures ∙ natural_contents-of_octets c.args.bytes.now all c.requires.some c.requires.positive needed

pub returns-clause-fits : goal.returns-clause-fits
returns-clause-fits c =
    let all : AreOctets c.args.bytes.now = are_octets c.args.bytes.now (search rules) in
    omega (arith, c.magnitude.ensures, number-fits_octets c.args.bytes.now c.args.width all c.requires.within)

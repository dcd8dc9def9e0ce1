use Rattle.std.proofs.Common.{rules, arith, sym, ap, ◌∙◌, subst, SFits, to_z-of_z}
use Rattle.std.specs.Int.{complement_if, w128}
use Rattle.der_elem.specs.Integer.{AreOctets, big_endian_number, complement_octets_if, integer_contents, FitsSignedWidth}
use Rattle.der_elem.specs.IntegerLaws.{twos_complement-complement_if, twos_complement-fits_width, integer_contents_twos_complement}
use Rattle.der_elem.proofs.IntegerContents.{are_octets, magnitude-fits}
use Rattle.der_elem.proofs.integer.octets.decode_signed.Goals as goal

pub magnitude-requires : goal.magnitude-requires
magnitude-requires c =
    let all : AreOctets c.args.bytes.now = are_octets c.args.bytes.now (search rules) in
    omega (arith, ap (λ n. big_endian_number (complement_octets_if n c.args.bytes.now)) c.is_negative-negative.ensures, magnitude-fits c.args.width c.args.bytes.now all c.requires.some c.requires.within c.requires.width)

pub signed_value-requires : goal.signed_value-requires
signed_value-requires c =
    let all : AreOctets c.args.bytes.now = are_octets c.args.bytes.now (search rules) in
    omega (arith, c.magnitude.ensures, ap (λ n. big_endian_number (complement_octets_if n c.args.bytes.now)) c.is_negative-negative.ensures, magnitude-fits c.args.width c.args.bytes.now all c.requires.some c.requires.within c.requires.width)

pub returns-clause-value : goal.returns-clause-value
returns-clause-value c =
    let all : AreOctets c.args.bytes.now = are_octets c.args.bytes.now (search rules) in
    let fits : SFits w128 c.signed_value.result = search rules in
    to_z-of_z fits
    ∙ c.signed_value.ensures
    ∙ ap (complement_if c.is_negative-negative.result) c.magnitude.ensures
    ∙ ap (λ n. complement_if n (big_endian_number (complement_octets_if n c.args.bytes.now))) c.is_negative-negative.ensures
    ∙ sym (twos_complement-complement_if c.args.bytes.now all)

pub returns-clause-contents : goal.returns-clause-contents
returns-clause-contents c = λ needed.
    let all : AreOctets c.args.bytes.now = are_octets c.args.bytes.now (search rules) in
    ap integer_contents (returns-clause-value c) ∙ integer_contents_twos_complement c.args.bytes.now all c.requires.some needed

pub returns-clause-fits : goal.returns-clause-fits
returns-clause-fits c =
    let all : AreOctets c.args.bytes.now = are_octets c.args.bytes.now (search rules) in
    subst (FitsSignedWidth c.args.width) (sym (returns-clause-value c)) (twos_complement-fits_width c.args.width c.args.bytes.now all c.requires.some c.requires.within)

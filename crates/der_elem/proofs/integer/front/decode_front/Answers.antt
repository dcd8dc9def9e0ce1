use Rattle.std.proofs.Common.{◌≡◌, length, rules, arith, sym, ap, ◌∙◌, subst, SFits, to_z-of_z, take}
use Rattle.std.proofs.lemmas.List.{length-take-le}
use Rattle.std.specs.Int.{complement_if, w128}
use Rattle.der_elem.specs.Integer.{AreOctets, big_endian_number, complement_octets_if, integer_contents, FitsSignedWidth}
use Rattle.der_elem.specs.IntegerLaws.{twos_complement-complement_if, twos_complement-fits_width, integer_contents_twos_complement}
use Rattle.der_elem.proofs.IntegerContents.{are_octets, take-are_octets}
use Rattle.der_elem.proofs.integer.front.decode_front.Goals as goal

pub returns-clause-value : goal.returns-clause-value
returns-clause-value c =
    let octets = take c.args.len c.args.block in
    let all : AreOctets octets = take-are_octets c.args.len c.args.block (are_octets c.args.block (search rules)) in
    let fits : SFits w128 c.signed_value.result = search rules in
    to_z-of_z fits
    ∙ c.signed_value.ensures
    ∙ ap (complement_if c.is_negative-negative.result) (c.from.ensures ∙ c.front_magnitude.ensures)
    ∙ ap (λ n. complement_if n (big_endian_number (complement_octets_if n octets))) c.is_negative-negative.ensures
    ∙ sym (twos_complement-complement_if octets all)

pub returns-clause-contents : goal.returns-clause-contents
returns-clause-contents c = λ needed.
    let octets = take c.args.len c.args.block in
    let all : AreOctets octets = take-are_octets c.args.len c.args.block (are_octets c.args.block (search rules)) in
    let count : length octets ≡ c.args.len = length-take-le c.args.len c.args.block (search rules) in
    ap integer_contents (returns-clause-value c) ∙ integer_contents_twos_complement octets all (omega (arith, count, c.requires.some)) needed

pub returns-clause-fits : goal.returns-clause-fits
returns-clause-fits c =
    let octets = take c.args.len c.args.block in
    let all : AreOctets octets = take-are_octets c.args.len c.args.block (are_octets c.args.block (search rules)) in
    let count : length octets ≡ c.args.len = length-take-le c.args.len c.args.block (search rules) in
    subst (FitsSignedWidth c.args.width) (sym (returns-clause-value c)) (twos_complement-fits_width c.args.width octets all (omega (arith, count, c.requires.some)) (omega (arith, count, c.requires.within)))

use Rattle.std.proofs.Common.{rules, arith, drop, sym, ap, ◌∙◌}
use Rattle.std.proofs.lemmas.List.{length-drop}
use Rattle.der_elem.proofs.IntegerContents.{are_octets}
use Rattle.der_elem.specs.Integer.{AreOctets, big_endian_number, with_sign_octet, natural_contents}
use Rattle.der_numbers.specs.AnyLength.{has_leading_zero}
use Rattle.der_numbers.specs.UnsignedLaws.{number-leading_zero, natural_contents-kept}
use Rattle.der_numbers.proofs.Stripping.{AreOctets-drop, from, stripped_more}
use Rattle.der_numbers.proofs.octets.strip_zeros.Goals as goal

pub loop-start-preserved : goal.loop-start-preserved
loop-start-preserved c =
    let all : AreOctets c.args.octets.now = are_octets c.args.octets.now (search rules) in
    let more = stripped_more has_leading_zero big_endian_number number-leading_zero c.args.octets.now c.loop-start.start all (sym c.has_leading_zero.ensures ∙ c.loop-start-test.true) c.loop-start.invariant.same in
    record { within = more.0; same = more.1 }

pub returns-clause-fewest : goal.returns-clause-fewest
returns-clause-fewest c =
    let octets = c.args.octets.now in
    let start = c.loop-start.start in
    let all : AreOctets octets = are_octets octets (search rules) in
    let left = natural_contents-kept (drop start octets) (AreOctets-drop start octets all) (omega (arith, length-drop start octets, c.loop-start.invariant.within)) (ap has_leading_zero (sym (from octets start)) ∙ sym c.has_leading_zero.ensures ∙ c.loop-start-test.false) in
    ap with_sign_octet (from octets start) ∙ left ∙ sym (ap (λ o. natural_contents (big_endian_number o)) (from octets start))

pub returns-clause-contents : goal.returns-clause-contents
returns-clause-contents c =
    returns-clause-fewest c ∙ ap (λ o. natural_contents (big_endian_number o)) (from c.args.octets.now c.loop-start.start) ∙ ap natural_contents c.loop-start.invariant.same

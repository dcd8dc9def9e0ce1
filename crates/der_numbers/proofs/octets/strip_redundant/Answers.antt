use Rattle.std.proofs.Common.{rules, arith, drop, sym, ap, ◌∙◌}
use Rattle.std.proofs.lemmas.List.{length-drop}
use Rattle.der_elem.proofs.IntegerContents.{are_octets}
use Rattle.der_elem.specs.Integer.{AreOctets, is_redundant, twos_complement, integer_contents}
use Rattle.der_numbers.specs.AnyLengthLaws.{twos_complement-redundant, integer_contents-kept, integer_contents-own}
use Rattle.der_numbers.proofs.Stripping.{AreOctets-drop, from, stripped_more}
use Rattle.der_numbers.proofs.octets.strip_redundant.Goals as goal

pub loop-start-preserved : goal.loop-start-preserved
loop-start-preserved c =
    let all : AreOctets c.args.octets.now = are_octets c.args.octets.now (search rules) in
    let more = stripped_more is_redundant twos_complement twos_complement-redundant c.args.octets.now c.loop-start.start all (sym c.is_redundant.ensures ∙ c.loop-start-test.true) c.loop-start.invariant.same in
    record { within = more.0; same = more.1 }

pub returns-clause-contents : goal.returns-clause-contents
returns-clause-contents c =
    let octets = c.args.octets.now in
    let start = c.loop-start.start in
    let all : AreOctets octets = are_octets octets (search rules) in
    from octets start
    ∙ integer_contents-kept (drop start octets) (AreOctets-drop start octets all) (omega (arith, length-drop start octets, c.loop-start.invariant.within)) (ap is_redundant (sym (from octets start)) ∙ sym c.is_redundant.ensures ∙ c.loop-start-test.false)
    ∙ ap integer_contents c.loop-start.invariant.same

pub returns-clause-some : goal.returns-clause-some
returns-clause-some c = omega (arith, c.loop-start.invariant.within)

pub returns-clause-fewest : goal.returns-clause-fewest
returns-clause-fewest c = integer_contents-own (twos_complement c.args.octets.now) _ (returns-clause-contents c)

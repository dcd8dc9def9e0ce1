-- One chain more is looked at.
use Rattle.std.proofs.Common.{rules, ◌≡◌, [], ◌∷◌, ◌++◌, length, ap, ◌∙◌, arith, vec_len}
use Rattle.der_path.proofs.Searching.{all_searched, first_searched, is_taken, none_left, searched_on}
use Rattle.der_path.proofs.finding.find_among.Goals as goal

pub each-init : goal.each-init
each-init c = record {
  counted = omega arith;
  searched = λ last octets first. first_searched c.args.search c.args.links.now last c.args.inputs.now c.push.new.self.items c.args.end (c.in-Ok.ensures.items ∙ ap (λ s. s ++ c.args.end ∷ []) c.new-stack.ensures.items) octets first;
}

pub returns-in-Found : goal.returns-in-Found
returns-in-Found c = λ last octets first.
    c.in-Found.ensures c.args.links.now last (is_taken c.args.search c.args.links.now last c.args.inputs.now c.each.stack.items c.pop.new.self.items c.in-Some.chain c.each.refused c.in-Some.ensures.items (c.each.invariant.searched last octets first))

pub each-preserved : goal.each-preserved
each-preserved c = record {
  counted = search rules;
  searched = λ last octets first.
      searched_on c.args.search c.args.links.now last c.args.inputs.now c.each.stack.items c.pop.new.self.items c.put_longer.new.stack.items c.in-Some.chain c.each.refused c.in-Refused.one c.earlier-refused.result
      c.in-Some.ensures.items c.put_longer.ensures.kept c.in-Ok-put_longer.ensures.put (c.in-Refused.ensures c.args.links.now last) c.earlier-refused.ensures (c.each.invariant.searched last octets first);
}

pub returns : goal.returns
returns c = λ last octets first.
    let count : vec_len c.each.stack ≡ length c.each.stack.items = search rules in
    let none : c.each.stack.items ≡ [] = none_left c.each.stack.items c.pop.result c.in_default-pop.not-Some (λ d h. (_, c.pop.ensures.value d (omega (arith, count, h)))) in
    all_searched c.args.search c.args.links.now last c.args.inputs.now c.each.stack.items c.each.refused none (c.each.invariant.searched last octets first)

-- The facts of one certificate more.
use Rattle.std.proofs.Common.{◌-◌, length, take, drop, refl, arith}
use Rattle.std.proofs.lemmas.List.{nil_from_length}
use Rattle.der_path.proofs.Reading.{all_read, none_read, one_read, unread_at}
use Rattle.der_path.proofs.Walk.{front}
use Rattle.der_path.proofs.path.facts_of_each.Goals as goal

pub each-init : goal.each-init
each-init c = record {
  read = λ lists listed. none_read c.args.chain.now lists c.new-found.result.items c.new-found.ensures.items listed;
  counted = omega arith;
}

pub returns-in-Err : goal.returns-in-Err
returns-in-Err c = λ lists listed.
    unread_at c.args.chain.now lists c.each.found.items c.each.at c.each.left.now c.certificate-item.result (take (length c.each.left.now - 1) (drop 1 c.each.left.now))
    (front c.each.left.now _ c.certificate-item.result _ c.in-len1-up.len_at_least c.certificate-item.is refl)
    (c.each.invariant.read lists listed) c.in-Err.why c.no_facts_at.result c.no_facts_at.ensures c.in-Err.ensures

pub each-preserved : goal.each-preserved
each-preserved c = record {
  read = λ lists listed.
      one_read c.args.chain.now lists c.each.found.items c.each.at c.each.left.now c.certificate-item.result _
      (front c.each.left.now _ c.certificate-item.result _ c.in-len1-up.len_at_least c.certificate-item.is refl)
      (c.each.invariant.read lists listed) c.in-Ok.facts c.push.new.self.items c.in-Ok.ensures c.in-Ok-push.ensures.items;
  counted = omega arith;
}

pub returns : goal.returns
returns c = λ lists listed.
    all_read c.args.chain.now lists c.each.found.items c.each.at c.each.left.now (nil_from_length c.each.left.now (omega arith)) (c.each.invariant.read lists listed)

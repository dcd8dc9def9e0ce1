-- One certificate more.
use Rattle.std.proofs.Common.{refl, inl}
use Rattle.std.specs.Prelude.{Contains}
use Rattle.std.proofs.lemmas.List.Elements.{All-contains_itself, All-rest}
use Rattle.der_path.proofs.Searching.{each_on, front_is, put_on, puts_none}
use Rattle.der_path.proofs.chain.put_those.Goals as goal

pub each-init : goal.each-init
each-init c = record {
  left = All-contains_itself c.args.links.now;
  kept = puts_none c.args.chain.now (Contains c.args.links.now) c.args.stack.now.items c.args.stack.now.items refl;
  put = λ x held. inl held;
}

pub returns-in_err-put_one-clause-kept : goal.returns-in_err-put_one-clause-kept
returns-in_err-put_one-clause-kept c =
    put_on c.args.links.now c.args.chain.now c.args.fitting c.args.stack.now.items c.each.stack.items c.put_one.new.stack.items c.each.left.now _ _
    (front_is c.each.left.now _ c.link-item.result _ c.in-len1-up.len_at_least c.link-item.is refl) c.each.invariant.left c.each.invariant.kept c.put_one.ensures.kept

pub each-preserved : goal.each-preserved
each-preserved c =
    let front = front_is c.each.left.now _ c.link-item.result _ c.in-len1-up.len_at_least c.link-item.is refl in
    record {
      left = All-rest (Contains c.args.links.now) _ _ c.each.left.now front c.each.invariant.left;
      kept = put_on c.args.links.now c.args.chain.now c.args.fitting c.args.stack.now.items c.each.stack.items c.put_one.new.stack.items c.each.left.now _ _ front c.each.invariant.left c.each.invariant.kept c.put_one.ensures.kept;
      put = each_on c.args.links.now c.args.chain.now c.args.fitting c.args.stack.now.items c.each.stack.items c.put_one.new.stack.items c.each.left.now _ _ front c.each.invariant.put c.put_one.ensures.kept c.in_ok-put_one.ensures.put;
    }

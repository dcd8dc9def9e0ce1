-- One certificate more is read.
use Rattle.std.proofs.Common.{refl, arith}
use Rattle.std.proofs.lemmas.List.{nil_from_length}
use Rattle.der_path.proofs.Chains.{begun, not_read, one_more, refused, whole_read}
use Rattle.der_path.proofs.Walk.{front}
use Rattle.der_path.proofs.read_chain.read_each.Goals as goal

pub each-init : goal.each-init
each-init c = record { read = begun c.args.chain.now c.new-found.result.items c.new-found.ensures.items; counted = omega arith }

pub returns-in-Err : goal.returns-in-Err
returns-in-Err c =
    not_read c.args.chain.now c.each.found.items c.each.at c.each.left.now _ _ (front c.each.left.now _ _ _ c.in-len1-up.len_at_least refl refl)
    c.each.invariant.read c.in-Err.error (refused _ c.in-Err.error c.in-Err.ensures)

pub each-preserved : goal.each-preserved
each-preserved c = record {
  read =
      one_more c.args.chain.now c.each.found.items c.each.at c.each.left.now _ _ (front c.each.left.now _ _ _ c.in-len1-up.len_at_least refl refl)
      c.each.invariant.read c.in-Ok.certificate c.push.new.self.items c.in-Ok.ensures c.in-Ok-push.ensures.items;
  counted = omega arith;
}

pub returns : goal.returns
returns c = whole_read c.args.chain.now c.each.found.items c.each.at c.each.left.now (nil_from_length c.each.left.now (omega arith)) c.each.invariant.read

-- One list more is read.
use Rattle.std.proofs.Common.{refl}
use Rattle.der_path.specs.Deltas.{ShowsTrustedList}
use Rattle.der_path.proofs.ShowingEach.{one_shown}
use Rattle.der_path.proofs.Walk.{front}
use Rattle.der_path.proofs.deltas.trusted_lists.Goals as goal

pub each-preserved : goal.each-preserved
each-preserved c =
    one_shown ShowsTrustedList c.args.lists.now c.each.kept.items c.each.left.now c.list-item.result _ c.in_ok-trusted_list.field-0 c.push.new.self.items (front c.each.left.now _ c.list-item.result _ c.in-len1-up.len_at_least c.list-item.is refl)
    c.each.invariant c.in_ok-trusted_list.ensures c.in_ok-push.ensures.items

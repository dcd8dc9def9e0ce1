-- One value more, or the first byte range that has none.
use Rattle.std.proofs.Common.{inl, refl}
use Rattle.std.proofs.lemmas.List.{nil_from_length}
use Rattle.der_c.proofs.ChainReading.{front}
use Rattle.der_c.proofs.EachReading.{begun, not_read, one_more, whole_read}
use Rattle.der_c.proofs.path.there.each_there.Goals as goal

pub each-init : goal.each-init
each-init g c = begun g.T.Form c.args.octets.now c.args.places.now c.new-found.result.items c.new-found.ensures.items

pub returns-in-Err-clause-err : goal.returns-in-Err-clause-err
returns-in-Err-clause-err g c =
    inl (not_read g.T.Form c.args.octets.now c.args.places.now c.each.found.items c.each.left.now _ _ (front c.each.left.now _ _ _ c.in-len1-up.len_at_least refl refl) c.each.invariant c.in-Err.fault c.refusal_at.result c.in-Err.ensures.err c.refusal_at.ensures)

pub each-preserved : goal.each-preserved
each-preserved g c =
    one_more g.T.Form c.args.octets.now c.args.places.now c.each.found.items c.each.left.now _ _ (front c.each.left.now _ _ _ c.in-len1-up.len_at_least refl refl) c.each.invariant c.in-Ok.value _ c.in-Ok.ensures.ok c.in-Ok-push.ensures.items

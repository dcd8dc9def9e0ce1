-- What has to verify of one certificate more.
use Rattle.std.proofs.Common.{◌-◌, length, take, drop, refl, subst, sym, arith}
use Rattle.std.proofs.lemmas.List.{nil_from_length}
use Rattle.der_path.specs.Keys.{first_key}
use Rattle.der_path.proofs.Chains.{all_found, none_found, one_found, FoundSoFar}
use Rattle.der_path.proofs.Walk.{front}
use Rattle.der_path.proofs.keys.verifications_of.Goals as goal

pub each-init : goal.each-init
each-init c = λ read.
    subst (λ w. FoundSoFar (first_key c.args.anchor.now) w c.args.chain.now c.args.certificates.now c.new-found.result.items c.args.chain.now c.args.certificates.now) (sym c.first_key-working.ensures)
    (none_found (first_key c.args.anchor.now) c.args.chain.now c.args.certificates.now c.new-found.result.items c.new-found.ensures.items read)

pub each-preserved : goal.each-preserved
each-preserved c = λ read.
    subst (λ w. FoundSoFar (first_key c.args.anchor.now) w c.args.chain.now c.args.certificates.now c.push.new.self.items (take (length c.each.left.now - 1) (drop 1 c.each.left.now)) (take (length c.each.behind.now - 1) (drop 1 c.each.behind.now))) (sym c.next_key-working.ensures)
    (one_found (first_key c.args.anchor.now) c.each.working c.args.chain.now c.args.certificates.now c.each.found.items c.each.left.now c.each.behind.now (c.each.invariant read)
    _ _ c.certificate-item.result _
    (front c.each.left.now _ _ _ c.in-len1-up.len_at_least refl refl)
    (front c.each.behind.now _ c.certificate-item.result _ c.in-len1-up-behind.len_at_least c.certificate-item.is refl)
    c.in_ok-to_verify.field-0 c.push.new.self.items c.in_ok-to_verify.ensures c.in_ok-push.ensures.items)

pub returns : goal.returns
returns c = λ read. all_found (first_key c.args.anchor.now) c.each.working c.args.chain.now c.args.certificates.now c.each.found.items c.each.left.now c.each.behind.now (c.each.invariant read) (nil_from_length c.each.left.now (omega arith))

-- What has to verify of one certificate more.
use Rattle.std.proofs.Common.{refl, arith}
use Rattle.std.proofs.lemmas.List.{nil_from_length}
use Rattle.der_c.proofs.ChainReading.{all_found, front, none_found, one_found}
use Rattle.der_c.proofs.path.places.verifications_at.Goals as goal

pub each-init : goal.each-init
each-init c = λ w fits holds read. none_found c.args.octets.now w c.args.first c.args.chain.now c.args.certificates.now c.new-found.result.items c.new-found.ensures.items holds read

pub each-preserved : goal.each-preserved
each-preserved c = λ w fits holds read.
    one_found c.args.octets.now w c.each.working c.args.chain.now c.args.certificates.now c.each.found.items c.each.left.now c.each.behind.now (c.each.invariant w fits holds read) _ _ c.certificate-item.result _
    (front c.each.left.now _ _ _ c.in-len1-up.len_at_least refl refl)
    (front c.each.behind.now _ c.certificate-item.result _ c.in-len1-up-behind.len_at_least c.certificate-item.is refl)
    c.verification_at.result _ c.key_after-working.result
    (λ v h r. c.verification_at.ensures v fits h r) (λ v h r. c.key_after-working.ensures v fits h r) c.in_ok-push.ensures.items

pub returns : goal.returns
returns c = λ w fits holds read.
    all_found c.args.octets.now w c.each.working c.args.chain.now c.args.certificates.now c.each.found.items c.each.left.now c.each.behind.now (c.each.invariant w fits holds read) (nil_from_length c.each.left.now (omega arith))

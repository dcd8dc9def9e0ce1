-- The rules that were found so far, and those that are found among the rules left.
use Rattle.std.proofs.Common.{refl, sym, ap, ◌∙◌, ◌++◌}
use Rattle.std.specs.Prelude.{filter}
use Rattle.der_verify.specs.declared.rfc5280.CertificateRule.{CertificateRule}
use Rattle.der_verify.specs.Rfc5280.{breaks, certificate_rules}
use Rattle.der_verify.proofs.Steps.{left_out, taken}
use Rattle.der_verify.proofs.rfc5280.check_certificate.Goals as goal

pub each-init : goal.each-init
each-init c = λ listed a.
    ap (λ l. l ++ filter (λ (r : CertificateRule). breaks r c.args.certificate.now listed) c.as_slice-left.result.now) c.new-found.ensures.items
    ∙ ap (filter (λ (r : CertificateRule). breaks r c.args.certificate.now listed)) c.as_slice-left.ensures

pub each-preserved-in_ok-push : goal.each-preserved-in_ok-push
each-preserved-in_ok-push c = λ listed a.
    taken (λ (r : CertificateRule). breaks r c.args.certificate.now listed) c.each.found.items c.each.left.now certificate_rules _ _ _ _ (c.each.invariant listed a) c.in-len1-up.len_at_least refl refl (sym (c.in_ok-is_broken_in.ensures listed a) ∙ c.if-branch.true) c.in_ok-push.ensures.items

pub each-preserved : goal.each-preserved
each-preserved c = λ listed a.
    left_out (λ (r : CertificateRule). breaks r c.args.certificate.now listed) c.each.found.items c.each.left.now certificate_rules _ _ _ (c.each.invariant listed a) c.in-len1-up.len_at_least refl refl (sym (c.in_ok-is_broken_in.ensures listed a) ∙ c.if-branch.false)

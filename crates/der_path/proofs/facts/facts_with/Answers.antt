use Rattle.std.proofs.Common.{ap, subst, ◌∙◌}
use Rattle.std.specs.Prelude.{Vec}
use Rattle.std.specs.declared.alloc.Global.{Global}
use Rattle.der_pkix.specs.Certificate.TbsCertificate as tbs
use Rattle.der_path.specs.declared.names.Part.{Part}
use Rattle.der_path.specs.Facts.{Reads, ShowsFacts, ShowsParts, ShowsUses}
use Rattle.der_path.proofs.Reading.{facts_fail, fails, passed}
use Rattle.der_path.proofs.facts.facts_with.Goals as goal

pub returns-in_err-uses : goal.returns-in_err-uses
returns-in_err-uses c = λ listed a.
    passed (ShowsFacts c.args.certificate.now listed) c.in_err-uses.field-0.0 c.from_residual.result c.from_residual.ensures.1
    (fails (ShowsUses listed) (ShowsFacts c.args.certificate.now listed) (λ f s. (f.uses, s.uses)) c.in_err-uses.field-0.0 (c.in_err-uses.ensures listed a))

pub returns-in-Err : goal.returns-in-Err
returns-in-Err c = λ listed a.
    facts_fail c.args.certificate.now listed c.name_facts_of.result c.policy_facts_of.result c.read_parts.result c.read_parts-2.result c.both-constraints.result c.both-names.result c.both.result c.in-Err.error
    (c.name_facts_of.ensures listed a)
    (c.policy_facts_of.ensures listed a)
    (subst (λ n. Reads (λ (p : Vec Part Global). ShowsParts n p.items) c.read_parts.result) (c.issuer.ensures ∙ ap tbs.issuer c.tbs_certificate-signed.ensures) c.read_parts.ensures)
    (subst (λ n. Reads (λ (p : Vec Part Global). ShowsParts n p.items) c.read_parts-2.result) (c.subject.ensures ∙ ap tbs.subject c.tbs_certificate-signed.ensures) c.read_parts-2.ensures)
    c.both-constraints.ensures c.both-names.ensures c.both.ensures c.in-Err.is

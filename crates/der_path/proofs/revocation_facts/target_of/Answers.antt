use Rattle.std.proofs.Common.{subst}
use Rattle.std.specs.Prelude.{Err, Vec}
use Rattle.std.specs.declared.alloc.Global.{Global}
use Rattle.der_pkix.specs.Certificate.TbsCertificate as tbs
use Rattle.der_path.specs.declared.names.Part.{Part}
use Rattle.der_path.specs.Facts.{Reads, ShowsParts, ShowsUses}
use Rattle.der_path.specs.RevocationFacts.{ShowsTarget}
use Rattle.der_path.proofs.Reading.{fails, passed}
use Rattle.der_path.proofs.revocation_facts.target_of.Goals as goal

pub returns-in_err-uses : goal.returns-in_err-uses
returns-in_err-uses c = λ listed a.
    passed (ShowsTarget c.args.certificate.now listed) c.in_err-uses.field-0.0 c.from_residual.result c.from_residual.ensures.1
    (fails (ShowsUses listed) (ShowsTarget c.args.certificate.now listed) (λ t s. (s.uses, s.are_uses)) c.in_err-uses.field-0.0 (c.in_err-uses.ensures listed a))

pub returns-in_err-issuer : goal.returns-in_err-issuer
returns-in_err-issuer c = λ listed a.
    passed (ShowsTarget c.args.certificate.now listed) c.in_err-issuer.field-0.0 c.from_residual-in_err-issuer.result c.from_residual-in_err-issuer.ensures.1
    (fails (λ (p : Vec Part Global). ShowsParts (tbs.issuer c.args.certificate.now) p.items) (ShowsTarget c.args.certificate.now listed) (λ t s. (t.issuer, s.issuer)) c.in_err-issuer.field-0.0 (subst (λ n. Reads (λ (p : Vec Part Global). ShowsParts n p.items) (Err c.in_err-issuer.field-0.0)) c.issuer.ensures c.in_err-issuer.ensures))

use Rattle.std.proofs.Common.{Err, subst, sym}
use Rattle.der_pkix.specs.Certificate.TbsCertificate as tbs
use Rattle.der_verify.specs.Rfc5280.{AreListed}
use Rattle.der_path.specs.contracts.meanings.MeaningsMeantExtension.TheImpl as extension_form
use Rattle.der_path.specs.declared.ocsp_facts.Delegate.TheVariants as kept
use Rattle.der_path.specs.Facts.{Reads}
use Rattle.der_path.specs.OcspFacts.{IsDelegate, ShowsDelegateFacts}
use Rattle.der_path.proofs.ocsp_facts.KeepDelegateKeeperCertificate.keep.Goals as goal

-- no facts show the certificate that cannot be read
pub returns-in-Err-Unread : goal.returns-in-Err-Unread
returns-in-Err-Unread c = λ listed a.
    let own = subst (λ t. AreListed extension_form.ghosts.FORM (tbs.extensions t) listed) (sym c.tbs_certificate.ensures) a in
    let none = subst (λ e. Reads (ShowsDelegateFacts c.tbs_certificate.result.now listed) (Err e)) c.in-Err-Unread.field-0-is (c.in-Err-Unread.ensures listed own) in
    subst (λ t. IsDelegate t listed kept.Unread) c.tbs_certificate.ensures none

use Rattle.std.proofs.Common.{subst}
use Rattle.std.specs.Prelude.{Err}
use Rattle.der_pkix.specs.Crl.CertificateList as list
use Rattle.der_path.specs.Deltas.{ShowsTrusted}
use Rattle.der_path.specs.Facts.{Reads}
use Rattle.der_path.proofs.deltas.trusted_list.Goals as goal

pub returns-in-Err-Unread : goal.returns-in-Err-Unread
returns-in-Err-Unread c = λ listed a.
    subst (λ e. Reads (ShowsTrusted (list.tbs_cert_list c.args.list.now) listed) (Err e)) c.in-Err-Unread.field-0-is (subst (λ l. Reads (ShowsTrusted l listed) (Err c.in-Err-Unread.field-0)) c.tbs_cert_list.ensures (c.in-Err-Unread.ensures listed (rw c.tbs_cert_list.ensures a)))

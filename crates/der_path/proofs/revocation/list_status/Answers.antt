use Rattle.std.proofs.Common.{ap, subst}
use Rattle.std.specs.Prelude.{Err}
use Rattle.der_pkix.specs.Certificate.Certificate as certificate
use Rattle.der_pkix.specs.Crl.CertificateList as list
use Rattle.der_path.specs.Facts.{Reads}
use Rattle.der_path.specs.Revocation.{or_refused}
use Rattle.der_path.specs.RevocationFacts.{ShowsList, ShowsTarget}
use Rattle.der_path.proofs.revocation.list_status.Goals as goal

pub returns-in-Err-Unread : goal.returns-in-Err-Unread
returns-in-Err-Unread c = λ listed own a b.
    subst (λ e. Reads (ShowsTarget (certificate.tbs_certificate c.args.certificate.now) listed) (Err e)) c.in-Err-Unread.field-0-is (subst (λ t. Reads (ShowsTarget t listed) (Err c.in-Err-Unread.field-0)) c.tbs_certificate.ensures (c.in-Err-Unread.ensures listed (rw c.tbs_certificate.ensures a)))

pub returns-in-Err-Unread-list_facts_of : goal.returns-in-Err-Unread-list_facts_of
returns-in-Err-Unread-list_facts_of c = λ listed own a b.
    subst (λ e. Reads (ShowsList (list.tbs_cert_list c.args.list.now) own) (Err e)) c.in-Err-Unread-list_facts_of.field-0-is (subst (λ l. Reads (ShowsList l own) (Err c.in-Err-Unread-list_facts_of.field-0)) c.tbs_cert_list.ensures (c.in-Err-Unread-list_facts_of.ensures own (rw c.tbs_cert_list.ensures b)))

pub returns-in-Ok-list_answer : goal.returns-in-Ok-list_answer
returns-in-Ok-list_answer c = λ listed own a b. record {
  target = c.in-Ok.target;
  is_target = subst (λ t. ShowsTarget t listed c.in-Ok.target) c.tbs_certificate.ensures (c.in-Ok.ensures listed (rw c.tbs_certificate.ensures a));
  facts = c.in-Ok-list_facts_of.facts;
  are_facts = subst (λ l. ShowsList l own c.in-Ok-list_facts_of.facts) c.tbs_cert_list.ensures (c.in-Ok-list_facts_of.ensures own (rw c.tbs_cert_list.ensures b));
  answers = ap or_refused c.in-Ok-list_answer.ensures;
}

pub returns : goal.returns
returns c = λ listed own a b. record {
  target = c.in-Ok.target;
  is_target = subst (λ t. ShowsTarget t listed c.in-Ok.target) c.tbs_certificate.ensures (c.in-Ok.ensures listed (rw c.tbs_certificate.ensures a));
  facts = c.in-Ok-list_facts_of.facts;
  are_facts = subst (λ l. ShowsList l own c.in-Ok-list_facts_of.facts) c.tbs_cert_list.ensures (c.in-Ok-list_facts_of.ensures own (rw c.tbs_cert_list.ensures b));
  answers = ap or_refused c.in-Err.ensures;
}

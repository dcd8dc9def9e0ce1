-- The status, the first list that is not read, and the error of 6.3.3.
use Rattle.std.proofs.Common.{List, inl, inr, sym, subst}
use Rattle.der_pkix.specs.declared.crl.certificate_list.CertificateList.{CertificateList}
use Rattle.der_c.specs.contracts.path.meanings.MeaningsMeantCertificateList.TheImpl as list_form
use Rattle.der_c.specs.ChainPlaces.{EachOf}
use Rattle.der_c.proofs.revocation.lists.status_by_lists.Goals as goal

pub returns-in-Err-each_there-clause-err : goal.returns-in-Err-each_there-clause-err
returns-in-Err-each_there-clause-err c = inr (inl (record { value = c.in-Ok.certificate; is_at = c.in-Ok.ensures.ok }, c.in-Err-each_there.ensures.err))

pub returns-in-Ok-revocation_status-clause-ok : goal.returns-in-Ok-revocation_status-clause-ok
returns-in-Ok-revocation_status-clause-ok c = record {
  certificate = c.in-Ok.certificate;
  is_certificate = c.in-Ok.ensures.ok;
  lists = c.deref.result.now;
  are_lists = subst (λ (ls : List CertificateList). EachOf list_form.ghosts.FORM c.args.octets.now c.args.lists.now ls) (sym c.deref.ensures.value) c.in-Ok-each_there.ensures.ok;
  answers = c.in-Ok-revocation_status.ensures;
}

pub returns-clause-err : goal.returns-clause-err
returns-clause-err c = inr (inr (record {
  why = c.in-Err-revocation_status.error;
  tells = record {
    certificate = c.in-Ok.certificate;
    is_certificate = c.in-Ok.ensures.ok;
    lists = c.deref.result.now;
    are_lists = subst (λ (ls : List CertificateList). EachOf list_form.ghosts.FORM c.args.octets.now c.args.lists.now ls) (sym c.deref.ensures.value) c.in-Ok-each_there.ensures.ok;
    answers = c.in-Err-revocation_status.ensures;
  };
  refusal_is = c.refusal_of_status.ensures;
}))

-- The list that is not read, and the error of 6.3.3.
use Rattle.std.proofs.Common.{inl, inr}
use Rattle.der_c.proofs.revocation.list.status_by_list.Goals as goal

pub returns-in-Err-value_there-clause-err : goal.returns-in-Err-value_there-clause-err
returns-in-Err-value_there-clause-err c = inr (inl (
  record { value = c.in-Ok.certificate; is_at = c.in-Ok.ensures.ok },
  record { fault = c.in-Err-value_there.fault; none = c.in-Err-value_there.ensures.err; refusal_is = c.no_status-in-Err-value_there.ensures },
))

pub returns-in-Err-list_status-clause-err : goal.returns-in-Err-list_status-clause-err
returns-in-Err-list_status-clause-err c = inr (inr (record {
  error = c.in-Err-list_status.error;
  tells = record {
    certificate = c.in-Ok.certificate;
    is_certificate = c.in-Ok.ensures.ok;
    crl = c.in-Ok-value_there.list;
    is_list = c.in-Ok-value_there.ensures.ok;
    answers = c.in-Err-list_status.ensures;
  };
  refusal_is = c.refusal_of_list.ensures;
}))

-- The error of RFC 6960.
use Rattle.std.proofs.Common.{inl, inr}
use Rattle.der_c.proofs.revocation.answer.status_by_answer.Goals as goal

pub returns-clause-err : goal.returns-clause-err
returns-clause-err c = inr (inl (record {
  error = c.in-Err-ocsp_status.error;
  tells = record { parts = c.in-Ok.parts; are_parts = c.in-Ok.ensures.ok; answers = c.in-Err-ocsp_status.ensures };
  refusal_is = c.refusal_of_answer.ensures;
}))

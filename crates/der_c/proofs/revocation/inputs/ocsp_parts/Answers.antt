-- The first input that is refused, after those that are read.
use Rattle.std.proofs.Common.{inl, inr}
use Rattle.der_c.proofs.revocation.inputs.ocsp_parts.Goals as goal

pub returns-in-Err-value_there-clause-err : goal.returns-in-Err-value_there-clause-err
returns-in-Err-value_there-clause-err c = inr (record { value = c.in-Ok.answer; is_at = c.in-Ok.ensures.ok }, inl c.in-Err-value_there.ensures.err)

pub returns-in-Err-hashes_at-clause-err : goal.returns-in-Err-hashes_at-clause-err
returns-in-Err-hashes_at-clause-err c = inr (
  record { value = c.in-Ok.answer; is_at = c.in-Ok.ensures.ok },
  inr (record { value = c.in-Ok-value_there.issuer; is_at = c.in-Ok-value_there.ensures.ok }, c.in-Err-hashes_at.ensures.err),
)

-- What the answer says is written.
use Rattle.std.proofs.Common.{inl}
use Rattle.der_c.proofs.revocation.answer.der_ocsp_status.Goals as goal

pub returns-in-Ok : goal.returns-in-Ok
returns-in-Ok c = inl (record { found = c.in-Ok.found; has = c.in-Ok.ensures.ok; written = c.write_answer.ensures })

-- The status that the list tells is written.
use Rattle.std.proofs.Common.{inl, refl}
use Rattle.der_c.proofs.revocation.list.der_list_status.Goals as goal

pub returns-in-Ok : goal.returns-in-Ok
returns-in-Ok c = inl (record { status = c.in-Ok.status; tells = c.in-Ok.ensures.ok; out_is = c.list_status_at.ensures; no_fault = record { number = refl; unchanged = refl } })

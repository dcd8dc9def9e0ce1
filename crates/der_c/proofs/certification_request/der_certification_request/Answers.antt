use Rattle.std.proofs.Common.{inl, refl}
use Rattle.der_c.proofs.certification_request.der_certification_request.Goals as goal

pub returns-in-Ok : goal.returns-in-Ok
returns-in-Ok c =
    let read = c.in-Ok.ensures in
    let at = c.certification_request_at.ensures in
    inl (record { number = refl; unchanged = refl }, record { value = c.in-Ok.value; read = read; shown = (at.parts read, at.info read) })

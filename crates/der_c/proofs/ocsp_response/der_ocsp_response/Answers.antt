use Rattle.std.proofs.Common.{inl, refl}
use Rattle.der_c.proofs.ocsp_response.der_ocsp_response.Goals as goal

pub returns-in-Ok : goal.returns-in-Ok
returns-in-Ok c =
    let read = c.in-Ok.ensures in
    let at = c.ocsp_response_at.ensures in
    inl (record { number = refl; unchanged = refl }, record { value = c.in-Ok.value; read = read; shown = (at.fields read, at.bytes read, at.response_status) })

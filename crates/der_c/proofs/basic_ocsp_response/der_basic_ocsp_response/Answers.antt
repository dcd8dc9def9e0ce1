use Rattle.std.proofs.Common.{inl, refl}
use Rattle.der_c.proofs.basic_ocsp_response.der_basic_ocsp_response.Goals as goal

pub returns-in-Ok : goal.returns-in-Ok
returns-in-Ok c =
    let read = c.in-Ok.ensures in
    let at = c.basic_ocsp_response_at.ensures in
    inl (record { number = refl; unchanged = refl }, record { value = c.in-Ok.value; read = read; shown = (at.parts read, at.tbs read, at.produced_at) })

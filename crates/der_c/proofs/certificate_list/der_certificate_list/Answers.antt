use Rattle.std.proofs.Common.{inl, refl}
use Rattle.der_c.proofs.certificate_list.der_certificate_list.Goals as goal

pub returns-in-Ok : goal.returns-in-Ok
returns-in-Ok c =
    let read = c.in-Ok.ensures in
    let at = c.certificate_list_at.ensures in
    inl (record { number = refl; unchanged = refl }, record { value = c.in-Ok.value; read = read; shown = (at.parts read, at.tbs read, at.version, at.this_update, at.next_update) })

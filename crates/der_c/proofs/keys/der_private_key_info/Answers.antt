use Rattle.std.proofs.Common.{inl, refl}
use Rattle.der_c.proofs.keys.der_private_key_info.Goals as goal

pub returns-in-Ok : goal.returns-in-Ok
returns-in-Ok c =
    let read = c.in-Ok.ensures in
    let at = c.private_key_info_at.ensures in
    inl (record { number = refl; unchanged = refl }, record { value = c.in-Ok.value; read = read; shown = (at.fields read, at.version) })

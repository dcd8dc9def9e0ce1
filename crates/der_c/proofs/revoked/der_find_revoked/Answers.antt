use Rattle.std.proofs.Common.{inl, refl}
use Rattle.der_c.proofs.Entries.{finds_revoked, sixth_field}
use Rattle.der_c.proofs.revoked.der_find_revoked.Goals as goal

pub returns-in-Ok : goal.returns-in-Ok
returns-in-Ok c =
    let read = c.in-Ok.ensures in
    let list = c.certificate_list_at-at in
    let entry = c.entry_with.ensures in
    inl (record { number = refl; unchanged = refl }, record { value = c.in-Ok.value; read = read; shown = finds_revoked list.result.tbs.revoked_certificates _ (sixth_field (list.ensures.tbs read)) entry.absent entry.present })

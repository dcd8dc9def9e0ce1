use Rattle.std.proofs.Common.{inl, inr, refl}
use Rattle.der_c.proofs.name_text.der_name_text.Goals as goal

pub returns-in-Ok : goal.returns-in-Ok
returns-in-Ok c = inl (record { value = c.in-Ok.name; read = c.in-Ok.ensures; written = c.write_name.ensures })

pub returns-in-Err : goal.returns-in-Err
returns-in-Err c =
    let written = c.refuse.ensures in
    inr (record { error = c.in-Err.error; reason = c.in-Err.ensures; is_fault = record { number = written.number; written = written.written; unchanged = refl } })

use Rattle.std.proofs.Common.{inl, refl}
use Rattle.der_c.proofs.values.der_time.Goals as goal

pub returns-in-Ok : goal.returns-in-Ok
returns-in-Ok c = inl (record { number = refl; unchanged = refl }, record { value = c.in-Ok.value; read = c.in-Ok.ensures; shown = c.seconds.ensures })

use Rattle.std.proofs.Common.{inl, refl, ap, ◌∙◌}
use Rattle.der_c.specs.Bits.{bit}
use Rattle.der_c.proofs.comparing.der_cert_id_is.Goals as goal

pub returns-in-Ok : goal.returns-in-Ok
returns-in-Ok c = inl (record { number = refl; unchanged = refl }, record { value = c.in-Ok.value; read = c.in-Ok.ensures; shown = c.number_of_flag.ensures ∙ ap bit c.has_hashes.ensures })

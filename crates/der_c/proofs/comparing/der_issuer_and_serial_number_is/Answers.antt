use Rattle.std.proofs.Common.{inl, inr, refl, ap, ◌∙◌}
use Rattle.der_c.specs.Bits.{bit}
use Rattle.der_c.proofs.comparing.der_issuer_and_serial_number_is.Goals as goal

pub returns-in-Err-from_der : goal.returns-in-Err-from_der
returns-in-Err-from_der c =
    let written = c.refuse-in-Err-from_der.ensures in
    inr (inr (record { value = c.in-Ok.named; read = c.in-Ok.ensures }, record { error = c.in-Err-from_der.error; reason = c.in-Err-from_der.ensures; is_fault = record { number = written.number; written = written.written; unchanged = refl } }))

pub returns : goal.returns
returns c = inl (
  record { number = refl; unchanged = refl },
  record { one = c.in-Ok.named; other = c.in-Ok-from_der.of; read_one = c.in-Ok.ensures; read_other = c.in-Ok-from_der.ensures; shown = λ p q a b. c.number_of_flag.ensures ∙ ap bit (c.names.ensures p q a b) },
)

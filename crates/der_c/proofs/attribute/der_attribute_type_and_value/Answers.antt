use Rattle.std.proofs.Common.{inl, refl, take}
use Rattle.der_c.proofs.Left.{front_read}
use Rattle.der_c.proofs.attribute.der_attribute_type_and_value.Goals as goal

pub returns-in-Ok : goal.returns-in-Ok
returns-in-Ok c =
    let read = c.in-Ok.ensures.ok in
    let at = c.attribute_type_and_value_at.ensures in
    inl (record { number = refl; unchanged = refl }, record { value = c.in-Ok.value; taken = c.in-Ok.length; read = read; shown = (at.offset, at.length, at.fields (take c.in-Ok.length c.args.octets.now) (front_read read)) })

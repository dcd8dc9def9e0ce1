use Rattle.std.proofs.Common.{inl, refl}
use Rattle.der_c.proofs.NamesKept.{has_one}
use Rattle.der_c.proofs.general_names.der_names_address.Goals as goal

pub returns-in-Ok : goal.returns-in-Ok
returns-in-Ok c =
    let read = c.in-Ok.ensures in
    inl (
      record { number = refl; unchanged = refl },
      record {
        value = c.in-Ok.names;
        read = read;
        shown = has_one c.args.octets.now c.as_bytes.result.now c.in-Ok.names c.has_one.result c.number_of_flag.result read.accepted read.fits c.as_bytes.ensures c.has_one.ensures c.number_of_flag.ensures;
      },
    )

use Rattle.std.proofs.Common.{ap, inr}
use Rattle.der_places.specs.Layout.{implicit}
use Rattle.der_c.proofs.Parts.{at_same}
use Rattle.der_c.proofs.building.request.CertificationRequestInfoFromParts.from_parts.Goals as goal

pub returns-in-Err : goal.returns-in-Err
returns-in-Err c = inr c.in-Err.ensures

pub returns-in-Ok : goal.returns-in-Ok
returns-in-Ok c =
    let made = c.new.ensures in
    let read = c.in-Ok.ensures in (
      made.version,
      (
        at_same made.subject read.0,
        (
          at_same made.subject_pk_info read.1.0,
          (
            at_same (ap implicit made.attributes) read.1.1.0,
            tt,
          ),
        ),
      ),
    )

use Rattle.std.proofs.Common.{ap, option_map, ◌∙◌}
use Rattle.der_places.specs.Layout.{explicit}
use Rattle.der_c.proofs.Parts.{at_same}
use Rattle.der_c.proofs.building.ocsp_request.OcspRequestFromParts.from_parts.Goals as goal

pub returns-in-Err : goal.returns-in-Err
returns-in-Err c = c.in-Err.ensures

pub returns-in-Ok : goal.returns-in-Ok
returns-in-Ok c =
    let made = c.new.ensures in
    let read = c.in-Ok.ensures in (
      at_same made.tbs_request read.0,
      (
        at_same (ap (option_map explicit) made.optional_signature ∙ c.behind_explicit.ensures) read.1.0,
        tt,
      ),
    )

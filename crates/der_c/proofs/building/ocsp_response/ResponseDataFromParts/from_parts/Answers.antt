use Rattle.std.proofs.Common.{ap, inr, option_map, subst, sym, ◌∙◌}
use Rattle.der_places.specs.Layout.{explicit}
use Rattle.der_c.specs.Numbers.{IsGeneral}
use Rattle.der_c.proofs.Parts.{at_same}
use Rattle.der_c.proofs.building.ocsp_response.ResponseDataFromParts.from_parts.Goals as goal

pub returns-in-Err : goal.returns-in-Err
returns-in-Err c = inr (inr c.in-Err.ensures)

pub returns-in-Ok : goal.returns-in-Ok
returns-in-Ok c =
    let made = c.new.ensures in
    let read = c.in-Ok.ensures in (
      made.version,
      (
        subst (IsGeneral c.args.at.now.produced_at) (sym made.produced_at) c.in_ok-produced_at.ensures.ok,
        (
          at_same made.responder_id read.0,
          (
            at_same made.responses read.1.0,
            (
              at_same (ap (option_map explicit) made.response_extensions ∙ c.behind_explicit.ensures) read.1.1.0,
              tt,
            ),
          ),
        ),
      ),
    )

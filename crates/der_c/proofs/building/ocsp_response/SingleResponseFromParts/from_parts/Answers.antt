use Rattle.std.proofs.Common.{ap, inr, option_map, subst, sym, ◌∙◌}
use Rattle.der_places.specs.Layout.{explicit}
use Rattle.der_c.specs.Numbers.{IsGeneral, IsGeneralIfGiven}
use Rattle.der_c.proofs.Parts.{at_same}
use Rattle.der_c.proofs.building.ocsp_response.SingleResponseFromParts.from_parts.Goals as goal

pub returns-in-Err : goal.returns-in-Err
returns-in-Err c = inr (inr c.in-Err.ensures)

pub returns-in-Ok : goal.returns-in-Ok
returns-in-Ok c =
    let made = c.new.ensures in
    let read = c.in-Ok.ensures in (
      subst (IsGeneral c.args.at.now.this_update) (sym made.this_update) c.in_ok-this_update.ensures.ok,
      (
        subst (IsGeneralIfGiven c.args.at.now.next_update) (sym made.next_update) c.in_ok-next_update.ensures.ok,
        (
          at_same made.cert_id read.0,
          (
            at_same made.cert_status read.1.0,
            (
              at_same (ap (option_map explicit) made.single_extensions ∙ c.behind_explicit.ensures) read.1.1.0,
              tt,
            ),
          ),
        ),
      ),
    )

use Rattle.std.proofs.Common.{Some, ap, inr, option_map, rules, sym, ◌∙◌}
use Rattle.der_ocsp.specs.Ocsp.OcspResponseStatus.{names_of_ocsp_response_status}
use Rattle.der_places.specs.Layout.{explicit}
use Rattle.der_c.specs.Numbers.{IsNamed}
use Rattle.der_c.proofs.Parts.{at_same}
use Rattle.der_c.proofs.building.ocsp_response.OcspResponseFromParts.from_parts.Goals as goal

pub returns-in-Err : goal.returns-in-Err
returns-in-Err c = inr c.in-Err.ensures

pub returns-in-Ok : goal.returns-in-Ok
returns-in-Ok c =
    let made = c.new.ensures in
    let read = c.in-Ok.ensures in (
      let named : IsNamed names_of_ocsp_response_status c.args.at.now.response_status c.in_ok-status.status = search rules in named ∙ ap Some (sym made.response_status),
      (
        at_same (ap (option_map explicit) made.response_bytes ∙ c.behind_explicit.ensures) read.0,
        tt,
      ),
    )

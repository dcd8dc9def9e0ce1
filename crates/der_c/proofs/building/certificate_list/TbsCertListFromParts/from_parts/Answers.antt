use Rattle.std.proofs.Common.{ap, inr, option_map, subst, sym, ◌∙◌}
use Rattle.der_places.specs.Layout.{explicit}
use Rattle.der_c.specs.Numbers.{IsDate, IsDateIfGiven, IsVersionIfGiven}
use Rattle.der_c.proofs.Parts.{at_same}
use Rattle.der_c.proofs.building.certificate_list.TbsCertListFromParts.from_parts.Goals as goal

pub returns-in-Err : goal.returns-in-Err
returns-in-Err c = inr (inr (inr c.in-Err.ensures))

pub returns-in-Ok : goal.returns-in-Ok
returns-in-Ok c =
    let made = c.new.ensures in
    let read = c.in-Ok.ensures in (
      subst (IsVersionIfGiven c.args.at.now.version) (sym made.version) c.in_ok-version.ensures.ok,
      (
        subst (IsDate c.args.at.now.this_update) (sym made.this_update) c.in_ok-this_update.ensures.ok,
        (
          subst (IsDateIfGiven c.args.at.now.next_update) (sym made.next_update) c.in_ok-next_update.ensures.ok,
          (
            at_same made.signature read.0,
            (
              at_same made.issuer read.1.0,
              (
                at_same (made.revoked_certificates ∙ c.present.ensures) read.1.1.0,
                (
                  at_same (ap (option_map explicit) made.crl_extensions ∙ c.behind_explicit.ensures) read.1.1.1.0,
                  tt,
                ),
              ),
            ),
          ),
        ),
      ),
    )

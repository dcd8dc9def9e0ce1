use Rattle.std.proofs.Common.{inr, subst, sym, ◌∙◌}
use Rattle.der_c.specs.Numbers.{IsDate}
use Rattle.der_c.proofs.Parts.{at_same}
use Rattle.der_c.proofs.building.certificate_list.RevokedCertificateFromParts.from_parts.Goals as goal

pub returns-in-Err : goal.returns-in-Err
returns-in-Err c = inr c.in-Err.ensures

pub returns-in-Ok : goal.returns-in-Ok
returns-in-Ok c =
    let made = c.new.ensures in
    let read = c.in-Ok.ensures in (
      subst (IsDate c.args.at.now.revocation_date) (sym made.revocation_date) c.in_ok-revocation_date.ensures.ok,
      (
        at_same made.user_certificate read.0,
        (
          at_same (made.crl_entry_extensions ∙ c.present.ensures) read.1.0,
          tt,
        ),
      ),
    )

use Rattle.std.proofs.Common.{inr, ap, subst, sym, option_map, ◌∙◌}
use Rattle.der_pkix.specs.Certificate.Validity as validity
use Rattle.der_places.specs.Layout.{explicit, implicit}
use Rattle.der_c.specs.Numbers.{IsDate}
use Rattle.der_c.proofs.Parts.{at_same}
use Rattle.der_c.proofs.building.certificate.TbsCertificateFromParts.from_parts.Goals as goal

pub returns-in-Err : goal.returns-in-Err
returns-in-Err c = inr (inr (inr c.in-Err.ensures))

pub returns : goal.returns
returns c =
    let made = c.new-2.ensures in
    let dates = c.new.ensures in
    let read = c.in-Ok.ensures in
    let rest = read.1.1.1.1.1 in (
      made.version ∙ c.in_ok-version.ensures.ok,
      (
        subst (IsDate c.args.at.now.not_before) (sym (ap validity.not_before made.validity ∙ dates.not_before)) c.in_ok-not_before.ensures.ok,
        (
          subst (IsDate c.args.at.now.not_after) (sym (ap validity.not_after made.validity ∙ dates.not_after)) c.in_ok-not_after.ensures.ok,
          (
            at_same made.serial_number read.0,
            (
              at_same made.signature read.1.0,
              (
                at_same made.issuer read.1.1.0,
                (
                  at_same made.subject read.1.1.1.0,
                  (
                    at_same made.subject_public_key_info read.1.1.1.1.0,
                    (
                      at_same (ap (option_map implicit) made.issuer_unique_id ∙ c.behind_implicit.ensures) rest.0,
                      (
                        at_same (ap (option_map implicit) made.subject_unique_id ∙ c.behind_implicit-2.ensures) rest.1.0,
                        (
                          at_same (ap (option_map explicit) made.extensions ∙ c.behind_explicit.ensures) rest.1.1.0,
                          tt,
                        ),
                      ),
                    ),
                  ),
                ),
              ),
            ),
          ),
        ),
      ),
    )

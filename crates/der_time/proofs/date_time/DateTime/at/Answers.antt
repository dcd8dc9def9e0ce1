use Rattle.std.proofs.Common.{◌≡◌, ℕ, pos, unsigned_abs, ℤ, refl, sym, subst, ap, ◌∙◌, arith, w16}
use Rattle.std.specs.Int.{IsInRange}
use Rattle.jiff_core.specs.Calendar.{days_in_month}
use Rattle.jiff_core.proofs.SignedLemmas.{back_small}
use Rattle.der_time.specs.UnixTimeLaws.{unsigned_year, unsigned_year_in}
use Rattle.der_time.proofs.date_time.DateTime.at.Goals as goal

pub invariant_of-result-clause-year_in : goal.invariant_of-result-clause-year_in
invariant_of-result-clause-year_in c =
    let within = unsigned_year_in c.args.date c.requires.from_1970 in
    let own = back_small w16 c.args.date.year (omega (arith, within.1)) in
    let year : c.unsigned_abs.result ≡ unsigned_abs c.args.date.year = c.unsigned_abs.ensures.value ∙ ap unsigned_abs own in
    rw year within

pub invariant_of-result-clause-day_in : goal.invariant_of-result-clause-day_in
invariant_of-result-clause-day_in c =
    let within = unsigned_year_in c.args.date c.requires.from_1970 in
    let own = back_small w16 c.args.date.year (omega (arith, within.1)) in
    let year : c.unsigned_abs.result ≡ unsigned_abs c.args.date.year = c.unsigned_abs.ensures.value ∙ ap unsigned_abs own in
    let same = ap (λ (n : ℕ). pos n) year ∙ unsigned_year c.args.date c.requires.from_1970 in
    subst (λ (y : ℤ). IsInRange 1 (days_in_month y c.args.date.month) c.args.date.day) (sym same) c.args.date.day_in

pub returns-clause-date : goal.returns-clause-date
returns-clause-date c =
    let within = unsigned_year_in c.args.date c.requires.from_1970 in
    let own = back_small w16 c.args.date.year (omega (arith, within.1)) in
    let year : c.unsigned_abs.result ≡ unsigned_abs c.args.date.year = c.unsigned_abs.ensures.value ∙ ap unsigned_abs own in
    record {
      year = ap (λ (n : ℕ). pos n) year ∙ unsigned_year c.args.date c.requires.from_1970;
      month = refl;
      day = refl;
    }

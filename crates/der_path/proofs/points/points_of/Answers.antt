use Rattle.std.proofs.Common.{refl}
use Rattle.std.specs.Prelude.{Vec}
use Rattle.std.specs.declared.alloc.Global.{Global}
use Rattle.der_verify.specs.Extensions.{with_identifier}
use Rattle.der_verify.specs.Rfc5280.{id_ce}
use Rattle.der_path.specs.contracts.meanings.MeaningsMeantCrlDistributionPoints.TheImpl as points_form
use Rattle.der_path.specs.declared.points.Point.{Point}
use Rattle.der_path.specs.Facts.{ShowsOne}
use Rattle.der_path.specs.Points.{ShowsPoints}
use Rattle.der_path.proofs.Reading.{fails, passed}
use Rattle.der_path.proofs.points.points_of.Goals as goal

pub returns-in_err-held : goal.returns-in_err-held
returns-in_err-held c = λ listed a.
    passed (λ (points : Vec Point Global). ShowsPoints c.args.certificate.now listed points.items) c.in_err-held.field-0.0 c.from_residual.result c.from_residual.ensures.1
    (fails (ShowsOne points_form.ghosts.FORM (with_identifier (id_ce 31) listed)) (λ (points : Vec Point Global). ShowsPoints c.args.certificate.now listed points.items) (λ p s. (s.held, s.is_held)) c.in_err-held.field-0.0 (c.in_err-held.ensures refl listed (rw c.extensions.ensures a)))

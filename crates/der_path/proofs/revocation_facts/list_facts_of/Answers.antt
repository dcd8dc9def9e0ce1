use Rattle.std.proofs.Common.{refl}
use Rattle.der_verify.specs.Extensions.{with_identifier}
use Rattle.der_verify.specs.Rfc5280.{id_ce}
use Rattle.der_path.specs.contracts.meanings.MeaningsMeantIssuingDistributionPoint.TheImpl as point_form
use Rattle.der_path.specs.contracts.meanings.MeaningsMeantUintRef.TheImpl as number_form
use Rattle.der_path.specs.Facts.{ShowsOne}
use Rattle.der_path.specs.RevocationFacts.{ShowsList}
use Rattle.der_path.proofs.Reading.{fails, passed}
use Rattle.der_path.proofs.revocation_facts.list_facts_of.Goals as goal

pub returns-in_err-number : goal.returns-in_err-number
returns-in_err-number c = λ listed a.
    passed (ShowsList c.args.list.now listed) c.in_err-number.field-0.0 c.from_residual.result c.from_residual.ensures.1
    (fails (ShowsOne number_form.ghosts.FORM (with_identifier (id_ce 20) listed)) (ShowsList c.args.list.now listed) (λ f s. (s.number, s.is_number)) c.in_err-number.field-0.0 (c.in_err-number.ensures refl listed (rw c.crl_extensions.ensures a)))

pub returns-in_err-base : goal.returns-in_err-base
returns-in_err-base c = λ listed a.
    passed (ShowsList c.args.list.now listed) c.in_err-base.field-0.0 c.from_residual-in_err-base.result c.from_residual-in_err-base.ensures.1
    (fails (ShowsOne number_form.ghosts.FORM (with_identifier (id_ce 27) listed)) (ShowsList c.args.list.now listed) (λ f s. (s.base, s.is_base)) c.in_err-base.field-0.0 (c.in_err-base.ensures refl listed (rw c.crl_extensions-2.ensures a)))

pub returns-in_err-point : goal.returns-in_err-point
returns-in_err-point c = λ listed a.
    passed (ShowsList c.args.list.now listed) c.in_err-point.field-0.0 c.from_residual-in_err-point.result c.from_residual-in_err-point.ensures.1
    (fails (ShowsOne point_form.ghosts.FORM (with_identifier (id_ce 28) listed)) (ShowsList c.args.list.now listed) (λ f s. (s.scope, s.is_scope)) c.in_err-point.field-0.0 (c.in_err-point.ensures refl listed (rw c.crl_extensions-3.ensures a)))

use Rattle.std.proofs.Common.{refl}
use Rattle.der_verify.specs.Extensions.{with_identifier}
use Rattle.der_verify.specs.Rfc5280.{id_ce}
use Rattle.der_path.specs.contracts.meanings.MeaningsMeantBasicConstraints.TheImpl as basic_form
use Rattle.der_path.specs.contracts.meanings.MeaningsMeantNamedBitsRef.TheImpl as usage_form
use Rattle.der_path.specs.Facts.{ShowsOne, ShowsUses}
use Rattle.der_path.proofs.Reading.{fails, passed}
use Rattle.der_path.proofs.facts.uses_of.Goals as goal

pub returns-in_err-constraints : goal.returns-in_err-constraints
returns-in_err-constraints c = λ listed a.
    passed (ShowsUses listed) c.in_err-constraints.field-0.0 c.from_residual.result c.from_residual.ensures.1
    (fails (ShowsOne basic_form.ghosts.FORM (with_identifier (id_ce 19) listed)) (ShowsUses listed) (λ u s. (s.constraints, s.are_constraints)) c.in_err-constraints.field-0.0 (c.in_err-constraints.ensures refl listed a))

pub returns-in_err-usage : goal.returns-in_err-usage
returns-in_err-usage c = λ listed a.
    passed (ShowsUses listed) c.in_err-usage.field-0.0 c.from_residual-in_err-usage.result c.from_residual-in_err-usage.ensures.1
    (fails (ShowsOne usage_form.ghosts.FORM (with_identifier (id_ce 15) listed)) (ShowsUses listed) (λ u s. (s.usage, s.is_usage)) c.in_err-usage.field-0.0 (c.in_err-usage.ensures refl listed a))

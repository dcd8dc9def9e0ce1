use Rattle.std.proofs.Common.{refl}
use Rattle.der_verify.specs.Extensions.{with_identifier}
use Rattle.der_verify.specs.Rfc5280.{id_ce}
use Rattle.der_path.specs.contracts.meanings.MeaningsMeantGeneralNames.TheImpl as names_form
use Rattle.der_path.specs.contracts.meanings.MeaningsMeantNameConstraints.TheImpl as constraints_form
use Rattle.der_path.specs.Facts.{ShowsOne, ShowsNames}
use Rattle.der_path.proofs.Reading.{fails, passed}
use Rattle.der_path.proofs.facts.name_facts_of.Goals as goal

pub returns-in_err-names : goal.returns-in_err-names
returns-in_err-names c = λ listed a.
    passed (ShowsNames listed) c.in_err-names.field-0.0 c.from_residual.result c.from_residual.ensures.1
    (fails (ShowsOne names_form.ghosts.FORM (with_identifier (id_ce 17) listed)) (ShowsNames listed) (λ u s. (s.names, s.are_names)) c.in_err-names.field-0.0 (c.in_err-names.ensures refl listed a))

pub returns-in_err-constraints : goal.returns-in_err-constraints
returns-in_err-constraints c = λ listed a.
    passed (ShowsNames listed) c.in_err-constraints.field-0.0 c.from_residual-in_err-constraints.result c.from_residual-in_err-constraints.ensures.1
    (fails (ShowsOne constraints_form.ghosts.FORM (with_identifier (id_ce 30) listed)) (ShowsNames listed) (λ u s. (s.constraints, s.are_constraints)) c.in_err-constraints.field-0.0 (c.in_err-constraints.ensures refl listed a))

use Rattle.std.proofs.Common.{refl}
use Rattle.der_verify.specs.Extensions.{with_identifier}
use Rattle.der_verify.specs.Rfc5280.{id_ce}
use Rattle.der_path.specs.contracts.meanings.MeaningsMeantCertificatePolicies.TheImpl as policies_form
use Rattle.der_path.specs.contracts.meanings.MeaningsMeantPolicyConstraints.TheImpl as policy_form
use Rattle.der_path.specs.contracts.meanings.MeaningsMeantPolicyMappings.TheImpl as mappings_form
use Rattle.der_path.specs.contracts.meanings.MeaningsMeantUintRef.TheImpl as number_form
use Rattle.der_path.specs.Facts.{ShowsOne, ShowsPolicies}
use Rattle.der_path.proofs.Reading.{fails, passed}
use Rattle.der_path.proofs.facts.policy_facts_of.Goals as goal

pub returns-in_err-policies : goal.returns-in_err-policies
returns-in_err-policies c = λ listed a.
    passed (ShowsPolicies listed) c.in_err-policies.field-0.0 c.from_residual.result c.from_residual.ensures.1
    (fails (ShowsOne policies_form.ghosts.FORM (with_identifier (id_ce 32) listed)) (ShowsPolicies listed) (λ u s. (s.policies, s.are_policies)) c.in_err-policies.field-0.0 (c.in_err-policies.ensures refl listed a))

pub returns-in_err-mappings : goal.returns-in_err-mappings
returns-in_err-mappings c = λ listed a.
    passed (ShowsPolicies listed) c.in_err-mappings.field-0.0 c.from_residual-in_err-mappings.result c.from_residual-in_err-mappings.ensures.1
    (fails (ShowsOne mappings_form.ghosts.FORM (with_identifier (id_ce 33) listed)) (ShowsPolicies listed) (λ u s. (s.mappings, s.are_mappings)) c.in_err-mappings.field-0.0 (c.in_err-mappings.ensures refl listed a))

pub returns-in_err-constraints : goal.returns-in_err-constraints
returns-in_err-constraints c = λ listed a.
    passed (ShowsPolicies listed) c.in_err-constraints.field-0.0 c.from_residual-in_err-constraints.result c.from_residual-in_err-constraints.ensures.1
    (fails (ShowsOne policy_form.ghosts.FORM (with_identifier (id_ce 36) listed)) (ShowsPolicies listed) (λ u s. (s.constraints, s.are_constraints)) c.in_err-constraints.field-0.0 (c.in_err-constraints.ensures refl listed a))

pub returns-in_err-inhibit_any_policy : goal.returns-in_err-inhibit_any_policy
returns-in_err-inhibit_any_policy c = λ listed a.
    passed (ShowsPolicies listed) c.in_err-inhibit_any_policy.field-0.0 c.from_residual-in_err-inhibit_any_policy.result c.from_residual-in_err-inhibit_any_policy.ensures.1
    (fails (ShowsOne number_form.ghosts.FORM (with_identifier (id_ce 54) listed)) (ShowsPolicies listed) (λ u s. (s.inhibit, s.is_inhibit)) c.in_err-inhibit_any_policy.field-0.0 (c.in_err-inhibit_any_policy.ensures refl listed a))

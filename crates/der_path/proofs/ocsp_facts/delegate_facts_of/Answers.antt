use Rattle.std.proofs.Common.{refl}
use Rattle.der_verify.specs.Extensions.{with_identifier}
use Rattle.der_verify.specs.Rfc5280.{id_ce}
use Rattle.der_path.specs.contracts.meanings.MeaningsMeantExtKeyUsageSyntax.TheImpl as purposes_form
use Rattle.der_path.specs.contracts.meanings.MeaningsMeantNamedBitsRef.TheImpl as usage_form
use Rattle.der_path.specs.Facts.{ShowsOne}
use Rattle.der_path.specs.OcspFacts.{ShowsDelegateFacts}
use Rattle.der_path.proofs.Reading.{fails, passed}
use Rattle.der_path.proofs.ocsp_facts.delegate_facts_of.Goals as goal

pub returns-in_err-usage : goal.returns-in_err-usage
returns-in_err-usage c = λ listed a.
    passed (ShowsDelegateFacts c.args.certificate.now listed) c.in_err-usage.field-0.0 c.from_residual.result c.from_residual.ensures.1
    (fails (ShowsOne usage_form.ghosts.FORM (with_identifier (id_ce 15) listed)) (ShowsDelegateFacts c.args.certificate.now listed) (λ d s. (s.usage, s.is_usage)) c.in_err-usage.field-0.0 (c.in_err-usage.ensures refl listed (rw c.extensions.ensures a)))

pub returns-in_err-purposes : goal.returns-in_err-purposes
returns-in_err-purposes c = λ listed a.
    passed (ShowsDelegateFacts c.args.certificate.now listed) c.in_err-purposes.field-0.0 c.from_residual-in_err-purposes.result c.from_residual-in_err-purposes.ensures.1
    (fails (ShowsOne purposes_form.ghosts.FORM (with_identifier (id_ce 37) listed)) (ShowsDelegateFacts c.args.certificate.now listed) (λ d s. (s.purposes, s.are_purposes)) c.in_err-purposes.field-0.0 (c.in_err-purposes.ensures refl listed (rw c.extensions-2.ensures a)))

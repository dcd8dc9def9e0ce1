use Rattle.std.proofs.Common.{refl}
use Rattle.der_verify.specs.Extensions.{with_identifier}
use Rattle.der_verify.specs.Rfc5280.{id_ce}
use Rattle.der_path.specs.contracts.meanings.MeaningsMeantEnumeratedCrlReason.TheImpl as reason_form
use Rattle.der_path.specs.contracts.meanings.MeaningsMeantGeneralNames.TheImpl as names_form
use Rattle.der_path.specs.Facts.{ShowsOne}
use Rattle.der_path.specs.RevocationFacts.{ShowsEntryFacts}
use Rattle.der_path.proofs.Reading.{fails, passed}
use Rattle.der_path.proofs.revocation_facts.entry_facts_of.Goals as goal

pub returns-in_err-reason : goal.returns-in_err-reason
returns-in_err-reason c = λ listed a.
    passed (ShowsEntryFacts c.args.entry.now listed) c.in_err-reason.field-0.0 c.from_residual.result c.from_residual.ensures.1
    (fails (ShowsOne reason_form.ghosts.FORM (with_identifier (id_ce 21) listed)) (ShowsEntryFacts c.args.entry.now listed) (λ e s. (s.reason, s.is_reason)) c.in_err-reason.field-0.0 (c.in_err-reason.ensures refl listed (rw c.crl_entry_extensions.ensures a)))

pub returns-in_err-issuers : goal.returns-in_err-issuers
returns-in_err-issuers c = λ listed a.
    passed (ShowsEntryFacts c.args.entry.now listed) c.in_err-issuers.field-0.0 c.from_residual-in_err-issuers.result c.from_residual-in_err-issuers.ensures.1
    (fails (ShowsOne names_form.ghosts.FORM (with_identifier (id_ce 29) listed)) (ShowsEntryFacts c.args.entry.now listed) (λ e s. (s.issuers, s.are_issuers)) c.in_err-issuers.field-0.0 (c.in_err-issuers.ensures refl listed (rw c.crl_entry_extensions-2.ensures a)))

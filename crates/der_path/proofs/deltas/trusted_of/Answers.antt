use Rattle.std.proofs.Common.{refl}
use Rattle.der_verify.specs.Extensions.{with_identifier}
use Rattle.der_verify.specs.Rfc5280.{id_ce}
use Rattle.der_path.specs.contracts.meanings.MeaningsMeantSequenceRef.TheImpl as sequence_form
use Rattle.der_path.specs.Deltas.{ShowsTrusted}
use Rattle.der_path.specs.Facts.{ShowsOne}
use Rattle.der_path.specs.RevocationFacts.{ShowsList}
use Rattle.der_path.proofs.Reading.{fails, passed}
use Rattle.der_path.proofs.deltas.trusted_of.Goals as goal

pub returns-in_err-scope : goal.returns-in_err-scope
returns-in_err-scope c = λ listed a.
    passed (ShowsTrusted c.args.list.now listed) c.in_err-scope.field-0.0 c.from_residual.result c.from_residual.ensures.1
    (fails (ShowsOne sequence_form.ghosts.FORM (with_identifier (id_ce 28) listed)) (ShowsTrusted c.args.list.now listed) (λ t s. (s.scope, s.is_scope)) c.in_err-scope.field-0.0 (c.in_err-scope.ensures refl listed (rw c.crl_extensions.ensures a)))

pub returns-in_err-key : goal.returns-in_err-key
returns-in_err-key c = λ listed a.
    passed (ShowsTrusted c.args.list.now listed) c.in_err-key.field-0.0 c.from_residual-in_err-key.result c.from_residual-in_err-key.ensures.1
    (fails (ShowsOne sequence_form.ghosts.FORM (with_identifier (id_ce 35) listed)) (ShowsTrusted c.args.list.now listed) (λ t s. (s.key, s.is_key)) c.in_err-key.field-0.0 (c.in_err-key.ensures refl listed (rw c.crl_extensions-2.ensures a)))

pub returns-in_err-facts : goal.returns-in_err-facts
returns-in_err-facts c = λ listed a.
    passed (ShowsTrusted c.args.list.now listed) c.in_err-facts.field-0.0 c.from_residual-in_err-facts.result c.from_residual-in_err-facts.ensures.1
    (fails (ShowsList c.args.list.now listed) (ShowsTrusted c.args.list.now listed) (λ t s. (t.facts, s.facts)) c.in_err-facts.field-0.0 (c.in_err-facts.ensures listed a))

-- The name of the issuer and the facts of the answer were read.
use Rattle.std.proofs.Common.{subst, sym}
use Rattle.der_path.specs.Facts.{ShowsParts}
use Rattle.der_path.proofs.OcspAnswers.{answers_by}
use Rattle.der_path.proofs.ocsp.ocsp_status.Goals as goal

pub returns : goal.returns
returns c =
    answers_by c.args.answer.now c.args.issuer.now c.args.certificate c.args.moment c.deref.result.now c.in-Ok-answer_facts_of.facts c.ocsp_answer.result
    (subst (ShowsParts c.args.issuer.now) (sym c.deref.ensures.value) c.in-Ok.ensures) c.in-Ok-answer_facts_of.ensures c.ocsp_answer.ensures

use Rattle.std.proofs.Common.{◌∙◌}
use Rattle.der_verify.proofs.OtherRules.{within}
use Rattle.der_verify.proofs.rfc5280.lists.ListRule.is_broken.Goals as goal

pub returns-in_default : goal.returns-in_default
returns-in_default c = λ listed entries a b.
    (rw c.tbs_cert_list.ensures at c.is_broken_within.ensures) listed entries a b ∙ within c.args.self c.args.list.now listed entries c.in_default.not-AlgorithmsAgree

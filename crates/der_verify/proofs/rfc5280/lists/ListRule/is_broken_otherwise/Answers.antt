use Rattle.std.proofs.Common.{◌∙◌}
use Rattle.der_verify.proofs.OtherRules.{inside}
use Rattle.der_verify.proofs.rfc5280.lists.ListRule.is_broken_otherwise.Goals as goal

pub returns-in_default : goal.returns-in_default
returns-in_default c = λ listed entries a b.
    c.is_broken_inside.ensures listed entries a b ∙ inside c.args.self c.args.list.now listed entries c.in_default.not-ExtensionsInVersion2 c.in_default.not-IssuerIsNotEmpty c.in_default.not-NextUpdateIsThere c.in_default.not-EmptyListIsAbsent c.in_default.not-ExtensionsStandOnce

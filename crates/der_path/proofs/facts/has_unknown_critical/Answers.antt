use Rattle.std.proofs.Common.{sym, ◌∙◌}
use Rattle.der_path.proofs.Alike.{unknown_alike}
use Rattle.der_path.proofs.facts.has_unknown_critical.Goals as goal

pub returns : goal.returns
returns c = λ listed a. c.one_is_unknown_critical.ensures ∙ sym (unknown_alike listed c.args.extensions.now a)

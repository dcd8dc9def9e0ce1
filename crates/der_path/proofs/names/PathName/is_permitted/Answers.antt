use Rattle.std.proofs.Common.{ap, sym, ◌∙◌}
use Rattle.der_path.specs.Subtrees.{permits_name}
use Rattle.der_path.proofs.names.PathName.is_permitted.Goals as goal

pub returns-in-Octets : goal.returns-in-Octets
returns-in-Octets c = c.permits-in-Octets.ensures ∙ ap (permits_name c.args.subtrees.now) (sym c.in-Octets.is)

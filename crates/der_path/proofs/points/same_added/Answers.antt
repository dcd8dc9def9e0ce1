use Rattle.der_path.proofs.Added.{names_differ, names_match}
use Rattle.der_path.proofs.points.same_added.Goals as goal

pub returns-then-same_names : goal.returns-then-same_names
returns-then-same_names c = names_match c.args.first.now c.args.second.now c.args.last.now c.args.other.now c.same_names.result c.same_names.ensures c.matches.result c.if-same_names.true c.matches.ensures

pub returns-else-same_names : goal.returns-else-same_names
returns-else-same_names c = names_differ c.args.first.now c.args.second.now c.args.last.now c.args.other.now c.same_names.result c.same_names.ensures c.if-same_names.false

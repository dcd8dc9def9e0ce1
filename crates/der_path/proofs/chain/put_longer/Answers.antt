-- Those that do not fit are put, and then the others.
use Rattle.std.specs.Prelude.{Contains}
use Rattle.der_path.proofs.Searching.{on_ok, put_both, puts_both}
use Rattle.der_path.proofs.chain.put_longer.Goals as goal

pub returns-clause-kept : goal.returns-clause-kept
returns-clause-kept c = puts_both c.args.chain.now (Contains c.args.links.now) c.args.stack.now.items c.put_those.new.stack.items c.put_those-2.new.stack.items c.put_those.ensures.kept c.put_those-2.ensures.kept

pub returns-clause-put : goal.returns-clause-put
returns-clause-put c = on_ok _ _
    (λ second short. put_both c.args.links.now c.args.chain.now c.put_those.new.stack.items c.put_those-2.new.stack.items c.in_ok-put_those.ensures.put c.put_those-2.ensures.kept second)
    c.put_those-2.result c.put_those-2.ensures.put

use Rattle.std.proofs.Common.{◌∙◌}
use Rattle.der_time.specs.UnixTimeLaws.{chronological}
use Rattle.der_time.proofs.laws.chronological.Goals as goal

pub returns : goal.returns
returns c = c.cmp.ensures ∙ chronological c.args.one.now c.args.other.now

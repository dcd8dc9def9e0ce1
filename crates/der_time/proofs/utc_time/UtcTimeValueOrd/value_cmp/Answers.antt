use Rattle.std.proofs.Common.{rules}
use Rattle.der_time.specs.UtcTimeLaws.{utc_contents_cmp}
use Rattle.der_time.proofs.utc_time.UtcTimeValueOrd.value_cmp.Goals as goal

pub returns : goal.returns
returns c = rw (← utc_contents_cmp c.args.self.now c.args.other.now) (search rules)

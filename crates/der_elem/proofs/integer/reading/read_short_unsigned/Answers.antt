use Rattle.std.proofs.Common.{take, rules}
use Rattle.der_elem.proofs.IntegerReads.{unsigned_decoded}
use Rattle.der_elem.proofs.integer.reading.read_short_unsigned.Goals as goal

pub returns-in-Ok-unsigned_front-clause-read : goal.returns-in-Ok-unsigned_front-clause-read
returns-in-Ok-unsigned_front-clause-read g c = λ shown.
    unsigned_decoded c.args.width _ _ (take c.args.header.length c.in-Ok.block) _ (c.in-Ok.ensures.ok shown) (search rules)

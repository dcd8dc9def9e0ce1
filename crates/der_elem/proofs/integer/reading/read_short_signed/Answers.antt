use Rattle.std.proofs.Common.{take, rules}
use Rattle.der_elem.proofs.IntegerReads.{signed_decoded}
use Rattle.der_elem.proofs.integer.reading.read_short_signed.Goals as goal

pub returns-in-Ok-signed_front-clause-read : goal.returns-in-Ok-signed_front-clause-read
returns-in-Ok-signed_front-clause-read g c = λ shown.
    signed_decoded c.args.width c.requires.some _ _ (take c.args.header.length c.in-Ok.block) _ (c.in-Ok.ensures.ok shown) (search rules)

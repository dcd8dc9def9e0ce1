use Rattle.std.proofs.Common.{rules}
use Rattle.der_elem.proofs.IntegerReads.{signed_decoded}
use Rattle.der_elem.proofs.integer.reading.read_signed.Goals as goal

pub returns-in-Ok-clause-read : goal.returns-in-Ok-clause-read
returns-in-Ok-clause-read g c = λ shown.
    signed_decoded c.args.width c.requires.some _ _ c.in_ok-bytes.bytes.now _ (c.in_ok-bytes.ensures.ok shown) (search rules)

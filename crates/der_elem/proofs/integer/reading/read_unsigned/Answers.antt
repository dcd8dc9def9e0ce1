use Rattle.der_elem.proofs.IntegerReads.{unsigned_decoded}
use Rattle.der_elem.proofs.integer.reading.read_unsigned.Goals as goal

pub returns-in-Ok-clause-read : goal.returns-in-Ok-clause-read
returns-in-Ok-clause-read g c = λ shown.
    unsigned_decoded c.args.width _ _ c.in_ok-bytes.bytes.now _ (c.in_ok-bytes.ensures.ok shown) c.in-Ok.ensures

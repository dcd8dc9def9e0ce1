use Rattle.der_c.proofs.Within.{bits_none, bits_within}
use Rattle.der_c.proofs.contents.der_bit_string_octets.Goals as goal

pub returns-then-contents-eq0-clause-bits : goal.returns-then-contents-eq0-clause-bits
returns-then-contents-eq0-clause-bits c some = bits_none c.args.octets.now c.args.place.now c.der_contents-contents.result c.der_contents-contents.ensures.contents c.if-contents-eq0.true

pub returns-clause-bits : goal.returns-clause-bits
returns-clause-bits c some = bits_within c.args.octets.now c.args.place.now c.der_contents-contents.result c.behind_first.result c.der_contents-contents.ensures.contents c.der_contents-contents.ensures.within c.behind_first.ensures.offset c.behind_first.ensures.length

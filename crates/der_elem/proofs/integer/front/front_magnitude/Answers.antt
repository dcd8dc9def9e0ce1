use Rattle.std.proofs.Common.{rules}
use Rattle.der_elem.proofs.IntegerContents.{front_number}
use Rattle.der_elem.proofs.integer.front.front_magnitude.Goals as goal

pub returns : goal.returns
returns c = front_number c.args.negative c.args.block c.args.len c.from_be_bytes.result c.inverted_if.result (search rules) (search rules) (search rules) c.from_be_bytes.ensures c.inverted_if.ensures c.requires.few

use Rattle.std.proofs.Common.{sym, rules}
use Rattle.der_elem.specs.IntegerLaws.{natural_contents-leading_zeros}
use Rattle.der_elem.proofs.integer.writing.unsigned_len.Goals as goal

pub returns-clause-len : goal.returns-clause-len
returns-clause-len c = sym (natural_contents-leading_zeros c.args.number (search rules))

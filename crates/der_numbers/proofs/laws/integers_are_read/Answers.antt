use Rattle.der_numbers.specs.ReadingLaws.{integers-are_read}
use Rattle.der_numbers.proofs.laws.integers_are_read.Goals as goal

pub returns : goal.returns
returns c = integers-are_read

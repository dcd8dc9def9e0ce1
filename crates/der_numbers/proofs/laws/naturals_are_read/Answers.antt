use Rattle.der_numbers.specs.ReadingLaws.{naturals-are_read}
use Rattle.der_numbers.proofs.laws.naturals_are_read.Goals as goal

pub returns : goal.returns
returns c = naturals-are_read

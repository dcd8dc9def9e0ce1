use Rattle.der_bits.proofs.EndingBits.{lowest_one}
use Rattle.der_bits.proofs.trimming.low_zeros.Goals as goal

pub returns-clause-zero : goal.returns-clause-zero
returns-clause-zero c = (lowest_one c.args.octet c.requires c.ranges.octet.fits).1

pub returns-clause-one : goal.returns-clause-one
returns-clause-one c = (lowest_one c.args.octet c.requires c.ranges.octet.fits).2

pub returns-clause-few : goal.returns-clause-few
returns-clause-few c = (lowest_one c.args.octet c.requires c.ranges.octet.fits).0

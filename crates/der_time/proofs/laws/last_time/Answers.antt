use Rattle.std.proofs.Common.{refl}
use Rattle.jiff_core.proofs.DateLemmas.{days_from_civil-max}
use Rattle.der_time.specs.UnixTime.{day_number}
use Rattle.der_time.proofs.laws.last_time.Goals as goal

pub returns : goal.returns
unfolding day_number
returns c = rw days_from_civil-max refl

use Rattle.std.proofs.Common.{length}
use Rattle.der_elem.specs.Accepting.{Fits}
use Rattle.der_path.specs.declared.keys.WorkingKey.{WorkingKey}
use Rattle.der_c.specs.ChainPlaces.{EachAt, HoldsKey}
use Rattle.der_c.proofs.ChainReading.{FoundSoFar}
use Rattle.der_c.proofs.path.places.verifications_at.Given as goal

abbrev pub invariant-each : goal.invariant-each
invariant-each l = (w : WorkingKey) → Fits l.octets → HoldsKey l.octets w l.fn.first → EachAt l.octets l.chain l.certificates → FoundSoFar l.octets w l.working l.chain l.certificates l.found.items l.left l.behind

abbrev pub decreases-each : goal.decreases-each
decreases-each l = length l.left

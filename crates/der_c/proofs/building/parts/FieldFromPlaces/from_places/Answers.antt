use Rattle.std.proofs.Common.{inr}
use Rattle.der_c.proofs.Parts.{has_within, refused_within}
use Rattle.der_c.proofs.building.parts.FieldFromPlaces.from_places.Goals as goal

pub returns-in-Ok-from_places : goal.returns-in-Ok-from_places
returns-in-Ok-from_places g c = (c.in-Ok.ensures.ok, has_within c.args.octets.now (λ v. v.rest) _ _ c.in-Ok-from_places.ensures)

pub returns-in-Err-from_places : goal.returns-in-Err-from_places
returns-in-Err-from_places g c = inr ((c.in-Ok.first, c.in-Ok.ensures.ok), refused_within c.args.octets.now (λ v. v.rest) _ _ c.in-Err-from_places.ensures)

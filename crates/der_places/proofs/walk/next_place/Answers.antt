use Rattle.std.proofs.Common.{true, false, refl}
use Rattle.der_places.specs.declared.place.Place.{Place}
use Rattle.der_places.proofs.Headers.{present, absent, either}
use Rattle.der_places.proofs.walk.next_place.Goals as goal

pub returns-then-is_there : goal.returns-then-is_there
returns-then-is_there c =
    let place : Place = record { offset = c.behind-offset.result; length = c.encoding_len-length.result } in
    either c.args.octets.now c.args.last place true c.args.is_there c.if-is_there.true (present c.args.octets.now c.args.last place c.behind-offset.result c.behind-offset.ensures c.encoding_len-length.ensures refl)

pub returns-else-is_there : goal.returns-else-is_there
returns-else-is_there c =
    let place : Place = record { offset = c.behind-offset.result; length = 0 } in
    either c.args.octets.now c.args.last place false c.args.is_there c.if-is_there.false (absent c.args.octets.now c.args.last place c.behind-offset.result c.behind-offset.ensures refl refl)
